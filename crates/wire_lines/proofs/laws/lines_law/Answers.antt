use Rattle.wire_lines.proofs.InOrder.{lines_in_order}
use Rattle.wire_lines.proofs.laws.lines_law.Goals as goal

pub returns : goal.returns
returns c = lines_in_order
