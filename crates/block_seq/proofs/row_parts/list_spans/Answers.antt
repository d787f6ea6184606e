use Rattle.std.proofs.Common.{◌++◌, ap, sym, ◌∙◌}
use Rattle.pad_model.specs.Parts.{part_spans}
use Rattle.block_seq.proofs.RowParts.{flat_more}
use Rattle.block_seq.proofs.row_parts.list_spans.Goals as goal

pub loop-part-preserved : goal.loop-part-preserved
loop-part-preserved c =
    c.in_ok-add_spans.ensures ∙ ap (λ l. l ++ part_spans c.part-item.result) c.loop-part.invariant
    ∙ sym (flat_more part_spans c.args.parts.now c.loop-part.part-index c.part-item.result c.loop-part-test.true
    c.part-item.is)
