use Rattle.block_seq.proofs.RowPast.{counted-past, lead-to}
use Rattle.block_seq.proofs.row_past.count_visible.Goals as goal

pub count_before-requires : goal.count_before-requires
count_before-requires c = lead-to c.args.slides.now c.since.result.now c.args.tree.now.items c.args.rev c.weight.result
    c.requires c.since.ensures c.weight.ensures.sum

pub returns : goal.returns
returns c = counted-past c.args.slides.now c.since.result.now c.args.tree.now.items c.args.rev c.weight.result
    c.count_before.result c.requires c.since.ensures c.weight.ensures.sum c.count_before.ensures
