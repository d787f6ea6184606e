-- The line of a value is the request's: its value has no float, and nests a few levels deep.
use Rattle.std.proofs.Common.{string_bytes, rules}
use Rattle.wire_json.specs.Peers.{peer_request}
use Rattle.wire_json.proofs.Plain.{peer_has_no_float, peer_is_shallow}
use Rattle.wire_json.proofs.Spelled.{said}
use Rattle.wire_json.proofs.peer_request.peer_line.Goals as goal

pub returns : goal.returns
returns c = said string_bytes (peer_request c.args.own c.args.token.now) c.peer_value.result _
    (peer_has_no_float c.args.own c.args.token.now) (peer_is_shallow c.args.own c.args.token.now)
    (search rules) c.value_line.ensures
