use Rattle.std.proofs.Common.{arith}
use Rattle.std.proofs.lemmas.Grind.{common_steps}
use Rattle.weight_tree.proofs.Around.{insert_right}
use Rattle.weight_tree.proofs.tree.WeightTree.+insert.Goals as goal

pub returns-then-is_light_enough-2 : goal.returns-then-is_light_enough-2
returns-then-is_light_enough-2 g t c = grind (arith, common_steps, insert_right)

pub returns-else-rank-left_len : goal.returns-else-rank-left_len
returns-else-rank-left_len g t c = grind (arith, common_steps, insert_right)

pub returns-then-rank-left_len : goal.returns-then-rank-left_len
returns-then-rank-left_len g t c = grind (arith, common_steps)
