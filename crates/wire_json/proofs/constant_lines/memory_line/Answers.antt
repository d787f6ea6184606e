use Rattle.std.proofs.Common.{refl}
use Rattle.json.specs.Print.{escape_byte}
use Rattle.std.specs.Fmt.{digits}
use Rattle.wire_json.proofs.constant_lines.memory_line.Goals as goal

pub returns : goal.returns
unfolding escape_byte digits
returns c = refl
