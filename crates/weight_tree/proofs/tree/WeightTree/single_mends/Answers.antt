use Rattle.std.proofs.Common.{arith}
use Rattle.weight_tree.proofs.tree.WeightTree.single_mends.Goals as goal

pub returns : goal.returns
returns g c = grind arith
