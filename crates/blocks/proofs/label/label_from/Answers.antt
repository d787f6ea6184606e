use Rattle.std.proofs.Common.{sym, arith}
use Rattle.blocks.specs.declared.block.TheConstants.{LAST_LABEL}
use Rattle.blocks.proofs.Labels.{above-get, above-end}
use Rattle.blocks.proofs.label.label_from.Goals as goal

pub returns-then-rank-len : goal.returns-then-rank-len
returns-then-rank-len c = sym (above-end c.args.tree.now.items c.args.rank LAST_LABEL
    (omega (arith, c.len.ensures.len)))

pub returns : goal.returns
returns c = sym (above-get c.args.tree.now.items c.args.rank LAST_LABEL c.get.result.now c.get.ensures.item)
