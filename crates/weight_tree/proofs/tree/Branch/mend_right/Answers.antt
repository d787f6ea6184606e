use Rattle.std.proofs.Common.{◌≡◌, ◌+◌, max, arith}
use Rattle.weight_tree.proofs.Around.{length_around}
use Rattle.weight_tree.proofs.Height.{low_join}
use Rattle.weight_tree.proofs.tree.Branch.mend_right.Goals as goal

pub returns-clause-mended : goal.returns-clause-mended
returns-clause-mended g c =
    let left = c.args.self.now.left in
    let right = c.args.self.now.right in
    let size = length_around left.items c.args.self.now.item right.items in
    let height : c.max.result + 1 ≡ max left.height right.height + 1 = grind arith in
    let low = low_join left.height right.height _ _ c.requires.left.low c.height.ensures.low c.requires.balanced in
    record {
      left_size = grind arith;
      left_weight = grind arith;
      left_height = grind arith;
      right_height = grind arith;
      size = grind arith;
      size_fits = grind arith;
      weight = grind arith;
      weight_fits = grind arith;
      height = grind arith;
      height_fits = grind arith;
      balanced = c.requires.balanced;
      low = rw (height, size) low;
      left_low = c.requires.left.low;
      right_low = c.height.ensures.low;
    }
