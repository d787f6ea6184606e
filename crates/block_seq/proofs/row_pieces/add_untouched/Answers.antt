use Rattle.std.proofs.Common.{arith}
use Rattle.block_seq.proofs.RowGaps.{weights-rise}
use Rattle.block_seq.proofs.row_pieces.add_untouched.Goals as goal

pub overflow_sub-kept : goal.overflow_sub-kept
overflow_sub-kept c =
    let rise = weights-rise c.args.tree.now.items c.args.from c.args.to c.requires.order in
    omega (arith, rise, c.before-2.ensures.sum, c.before-3.ensures.sum)
