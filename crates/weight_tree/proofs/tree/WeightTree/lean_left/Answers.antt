use Rattle.std.proofs.Common.{arith}
use Rattle.std.proofs.lemmas.Grind.{common_steps}
use Rattle.weight_tree.proofs.tree.WeightTree.lean_left.Goals as goal

pub join-requires : goal.join-requires
join-requires g c = grind (arith, common_steps)

pub join-requires-then-single_mends : goal.join-requires-then-single_mends
join-requires-then-single_mends g c = grind (arith, common_steps)

pub join-left-requires : goal.join-left-requires
join-left-requires g c = grind (arith, common_steps)

pub join-right-requires : goal.join-right-requires
join-right-requires g c = grind (arith, common_steps)

pub join-requires-else-single_mends : goal.join-requires-else-single_mends
join-requires-else-single_mends g c = grind (arith, common_steps)

pub returns-then-single_mends : goal.returns-then-single_mends
returns-then-single_mends g c = grind (arith, common_steps)

pub returns-else-single_mends : goal.returns-else-single_mends
returns-else-single_mends g c = grind (arith, common_steps)
