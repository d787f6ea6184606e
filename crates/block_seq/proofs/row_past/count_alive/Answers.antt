use Rattle.std.proofs.Common.{arith}
use Rattle.block_seq.proofs.RowPast.{weight_small}
use Rattle.block_seq.proofs.row_past.count_alive.Goals as goal

pub overflow_add-result : goal.overflow_add-result
overflow_add-result c =
    let small = weight_small c.args.tree.now.items c.args.spot.rank in
    omega (arith, small, c.before-front.ensures.sum, c.requires.small, c.requires.inside)
