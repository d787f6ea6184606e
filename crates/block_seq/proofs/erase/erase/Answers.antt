use Rattle.std.proofs.Common.{ap, sym, ◌∙◌, slice_set}
use Rattle.std.proofs.lemmas.List.Edits.{map_over_more}
use Rattle.block_seq.specs.Plain.{erased_at}
use Rattle.block_seq.proofs.erase.erase.Goals as goal

pub loop-cell-preserved : goal.loop-cell-preserved
loop-cell-preserved c =
    ap (λ x. slice_set c.loop-cell.cells c.loop-cell.cell-index x)
    (c.erased-after.ensures ∙ ap (erased_at c.args.rev c.args.spans.now) (sym c.cell-item.is))
    ∙ map_over_more (erased_at c.args.rev c.args.spans.now) c.args.cells.now c.loop-cell.cells c.loop-cell.cell-index
    c.cell-item.result c.loop-cell-test.true c.loop-cell.invariant c.cell-item.is
