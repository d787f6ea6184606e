use Rattle.std.proofs.Common.{arith}
use Rattle.blocks.specs.declared.block.TheConstants.{LAST_LABEL}
use Rattle.blocks.proofs.Labels.{neighbours}
use Rattle.blocks.proofs.label.label_between.Goals as goal

pub overflow_sub-gap : goal.overflow_sub-gap
overflow_sub-gap c =
    let apart = neighbours 1 0 LAST_LABEL c.args.tree.now.items c.args.rank c.requires.rises c.requires.within in
    omega (arith, apart, c.label_before-left.ensures, c.label_from.ensures)
