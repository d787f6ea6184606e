-- The line of a value is the request's: its value has no float, and nests a few levels deep.
use Rattle.std.proofs.Common.{string_bytes, rules}
use Rattle.wire_json.specs.Peers.{vector_request}
use Rattle.wire_json.proofs.Plain.{vector_has_no_float, vector_is_shallow}
use Rattle.wire_json.proofs.Spelled.{said}
use Rattle.wire_json.proofs.peer_request.vector_line.Goals as goal

pub returns : goal.returns
returns c = said string_bytes (vector_request c.args.pad.now) c.vector_value.result _
    (vector_has_no_float c.args.pad.now) (vector_is_shallow c.args.pad.now) (search rules) c.value_line.ensures
