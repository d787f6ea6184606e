use Rattle.std.proofs.Common.{◌-◌, sym, arith, ap, ◌∙◌, ◌≡◌}
use Rattle.blocks.specs.Blocks.{below}
use Rattle.blocks.proofs.Labels.{below-zero, below-get}
use Rattle.blocks.proofs.label.label_before.Goals as goal

pub returns-then-rank-eq0 : goal.returns-then-rank-eq0
returns-then-rank-eq0 c =
    let none : c.args.rank ≡ 0 = c.if-rank-eq0.true in
    sym (ap (below 0 c.args.tree.now.items) none ∙ below-zero 0 c.args.tree.now.items)

pub returns : goal.returns
returns c = sym (below-get 0 c.args.tree.now.items c.args.rank (c.args.rank - 1) c.get.result.now c.get.ensures.item
    (omega arith))
