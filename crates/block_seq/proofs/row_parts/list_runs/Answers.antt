use Rattle.std.proofs.Common.{◌++◌, ap, sym, ◌∙◌}
use Rattle.pad_model.specs.Parts.{part_runs}
use Rattle.block_seq.proofs.RowParts.{flat_more}
use Rattle.block_seq.proofs.row_parts.list_runs.Goals as goal

pub loop-part-preserved : goal.loop-part-preserved
loop-part-preserved c =
    c.in_ok-add_inserted.ensures ∙ ap (λ l. l ++ part_runs c.part-item.result) c.loop-part.invariant
    ∙ sym (flat_more part_runs c.args.parts.now c.loop-part.part-index c.part-item.result c.loop-part-test.true
    c.part-item.is)
