use Rattle.std.proofs.Common.{arith}
use Rattle.std.proofs.lemmas.Grind.{common_steps, elements}
use Rattle.weight_tree.proofs.tree.WeightTree.+get.Goals as goal

pub get-requires : goal.get-requires
get-requires g t c = grind (arith, common_steps)

pub get-requires-else-rank-left-2 : goal.get-requires-else-rank-left-2
get-requires-else-rank-left-2 g t c = grind (arith, common_steps)

pub returns-then-rank-left : goal.returns-then-rank-left
returns-then-rank-left g t c = grind (arith, elements)

pub returns-then-rank-left-2 : goal.returns-then-rank-left-2
returns-then-rank-left-2 g t c = grind (arith, elements)

pub returns-else-rank-left-2 : goal.returns-else-rank-left-2
returns-else-rank-left-2 g t c = grind (arith, elements)
