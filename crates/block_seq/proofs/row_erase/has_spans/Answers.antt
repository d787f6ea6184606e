use Rattle.std.proofs.Common.{sym, ap, ◌∙◌, drop_of_length-le}
use Rattle.std.specs.List.{list_all}
use Rattle.std.proofs.lemmas.List.Folds.{list_all_at}
use Rattle.pad_model.specs.Cell.{character_of}
use Rattle.pad_model.specs.Legal.{has_stamp}
use Rattle.pad_model.specs.Operation.{span_stamps}
use Rattle.pad_model.proofs.Erase.{has_spans-each}
use Rattle.blocks.specs.Cells.{cells_of}
use Rattle.block_seq.proofs.RowReads.{passes_one}
use Rattle.block_seq.proofs.row_erase.has_spans.Goals as goal

pub returns-then-not-has_span : goal.returns-then-not-has_span
returns-then-not-has_span c = λ authors text w.
    let t = has_stamp character_of (cells_of authors text c.args.tree.now.items) in
    sym (has_spans-each t c.args.spans.now
    ∙ list_all_at (λ span. list_all t (span_stamps span)) c.args.spans.now c.loop-span.span-index c.span-item.result
    c.loop-span-test.true
    (ap (λ span. list_all t (span_stamps span)) (sym c.span-item.is) ∙ sym (c.has_span.ensures authors text w)
    ∙ c.if-not-has_span.true))

pub loop-span-preserved : goal.loop-span-preserved
loop-span-preserved c = λ authors text w.
    let t = has_stamp character_of (cells_of authors text c.args.tree.now.items) in
    passes_one (λ span. list_all t (span_stamps span)) c.args.spans.now c.loop-span.span-index c.span-item.result
    c.loop-span-test.true c.span-item.is (sym (c.has_span.ensures authors text w) ∙ c.if-not-has_span.false)
    (c.loop-span.invariant authors text w)

pub returns : goal.returns
returns c = λ authors text w.
    let t = has_stamp character_of (cells_of authors text c.args.tree.now.items) in
    sym (has_spans-each t c.args.spans.now
    ∙ sym (c.loop-span.invariant authors text w)
    ∙ ap (list_all (λ span. list_all t (span_stamps span))) (drop_of_length-le c.args.spans.now c.loop-span-test.false))
