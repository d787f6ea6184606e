use Rattle.std.proofs.Common.{arith}
use Rattle.std.proofs.lemmas.Grind.{common_steps}
use Rattle.weight_tree.proofs.Around.{parts}
use Rattle.weight_tree.proofs.tree.WeightTree.+before.Goals as goal

pub before-requires : goal.before-requires
before-requires g t c = grind (arith, common_steps)

pub before-requires-else-rank-left : goal.before-requires-else-rank-left
before-requires-else-rank-left g t c = grind (arith, common_steps)

pub overflow_add-result : goal.overflow_add-result
overflow_add-result g t c = grind (arith, common_steps)

pub returns-then-rank-left : goal.returns-then-rank-left
returns-then-rank-left g t c = grind (arith, common_steps)

pub returns-else-rank-left : goal.returns-else-rank-left
returns-else-rank-left g t c = grind (arith, parts)
