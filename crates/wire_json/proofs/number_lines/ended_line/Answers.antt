-- The line is the reply's.
use Rattle.std.proofs.Common.{string_bytes}
use Rattle.wire_json.proofs.Spelled as told
use Rattle.wire_json.proofs.number_lines.ended_line.Goals as goal

pub returns : goal.returns
returns c = told.if_ended string_bytes c.from_str.result c.from_str.ensures.ok
