use Rattle.std.proofs.Common.{◌≡◌, ◌+◌, max, arith}
use Rattle.weight_tree.proofs.Around.{length_around}
use Rattle.weight_tree.proofs.Height.{low_join}
use Rattle.weight_tree.proofs.tree.WeightTree.join.Goals as goal

pub invariant_of-result : goal.invariant_of-result
invariant_of-result g c =
    let left = c.args.left in
    let right = c.args.right in
    let size = length_around left.items c.deref_mut-branch.result.now.item right.items in
    let height : c.max.result + 1 ≡ max left.height right.height + 1 = cc in
    let low = low_join left.height right.height _ _ c.height.ensures.low c.height-2.ensures.low c.requires.balanced in
    record {
      left_size = cc;
      left_weight = cc;
      left_height = cc;
      right_height = cc;
      size = omega arith;
      size_fits = omega arith;
      weight = cc;
      weight_fits = grind arith;
      height = height;
      height_fits = omega arith;
      balanced = c.requires.balanced;
      low = rw (height, size) low;
      left_low = c.height.ensures.low;
      right_low = c.height-2.ensures.low;
    }
