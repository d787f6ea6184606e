use Rattle.std.proofs.Common.{ap, ◌∙◌, not}
use Rattle.block_seq.proofs.RowPast.{seen-order}
use Rattle.block_seq.proofs.row_past.stood_before.Goals as goal

pub returns-in-Some : goal.returns-in-Some
returns-in-Some c = λ b e.
    ap not c.is_at_most.ensures
    ∙ seen-order c.args.rev c.args.row.tree.now.items c.args.place c.in-Some.found.rank c.in-Some.found.offset
    c.args.spot.rank c.args.spot.offset b
    c.in-Some.ensures.0 c.in-Some.ensures.1 e (c.requires.inside b e)
