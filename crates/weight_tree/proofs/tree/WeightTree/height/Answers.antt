use Rattle.std.proofs.Common.{◌<◌, ◌^◌, length, subst, arith}
use Rattle.weight_tree.specs.Tree.{branch_items, IsWeightTree}
use Rattle.weight_tree.proofs.AtBranch.{height_at}
use Rattle.weight_tree.proofs.Around.{length_around}
use Rattle.weight_tree.proofs.Height.{low_bound}
use Rattle.weight_tree.proofs.tree.WeightTree.height.Goals as goal

pub returns-in-Some-clause-most : goal.returns-in-Some-clause-most
returns-in-Some-clause-most g c =
    let b = c.in-Some.branch.value in
    let mended = subst (IsWeightTree g.T.Weigh.weight_of) c.in-Some.is c.self.invariant in
    let is = height_at _ _ c.args.self.now c.self.view_is c.in-Some.is in
    let size = mended.size in
    let fits = mended.size_fits in
    let few : length (branch_items b) < 2 ^ 64 = omega (arith, length_around b.left.items b.item b.right.items) in
    rw is (low_bound b.height _ mended.low few)
