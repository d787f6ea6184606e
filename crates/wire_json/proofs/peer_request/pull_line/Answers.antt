-- The line of a value is the request's: its value has no float, and nests a few levels deep.
use Rattle.std.proofs.Common.{string_bytes, rules}
use Rattle.wire_json.specs.Peers.{pull_request}
use Rattle.wire_json.proofs.Plain.{pull_has_no_float, pull_is_shallow}
use Rattle.wire_json.proofs.Spelled.{said}
use Rattle.wire_json.proofs.peer_request.pull_line.Goals as goal

pub returns : goal.returns
returns c =
    said string_bytes (pull_request c.args.pad.now c.args.seen.now c.args.most c.args.batch) c.pull_value.result _
    (pull_has_no_float c.args.pad.now c.args.seen.now c.args.most c.args.batch)
    (pull_is_shallow c.args.pad.now c.args.seen.now c.args.most c.args.batch) (search rules) c.value_line.ensures
