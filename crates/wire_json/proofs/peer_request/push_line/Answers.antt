-- The line of a value is the request's: its value has no float, and nests a few levels deep.
use Rattle.std.proofs.Common.{string_bytes, rules}
use Rattle.wire_json.specs.Peers.{push_request}
use Rattle.wire_json.proofs.Plain.{push_has_no_float, push_is_shallow}
use Rattle.wire_json.proofs.Spelled.{said}
use Rattle.wire_json.proofs.peer_request.push_line.Goals as goal

pub returns : goal.returns
returns c = said string_bytes (push_request c.args.pad.now c.args.op.now) c.push_value.result _
    (push_has_no_float c.args.pad.now c.args.op.now) (push_is_shallow c.args.pad.now c.args.op.now)
    (search rules) c.value_line.ensures
