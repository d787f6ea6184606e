use Rattle.std.proofs.Common.{sym, ap, ◌∙◌, drop_of_length-le}
use Rattle.std.specs.List.{list_all}
use Rattle.std.proofs.lemmas.List.Folds.{list_all_at}
use Rattle.pad_model.specs.Legal.{has_stamp}
use Rattle.pad_model.specs.Operation.{span_stamps}
use Rattle.pad_model.proofs.Erase.{has_spans-each}
use Rattle.block_seq.specs.Plain.{kept_character}
use Rattle.block_seq.proofs.erase.has_spans.Goals as goal

pub returns-then-not-has_span : goal.returns-then-not-has_span
returns-then-not-has_span c =
    sym (has_spans-each (has_stamp kept_character c.args.cells.now) c.args.spans.now
    ∙ list_all_at (λ span. list_all (has_stamp kept_character c.args.cells.now) (span_stamps span)) c.args.spans.now
    c.loop-span.span-index c.span-item.result c.loop-span-test.true
    (ap (λ span. list_all (has_stamp kept_character c.args.cells.now) (span_stamps span)) (sym c.span-item.is)
    ∙ sym c.has_span.ensures ∙ c.if-not-has_span.true))

pub returns : goal.returns
returns c =
    sym (has_spans-each (has_stamp kept_character c.args.cells.now) c.args.spans.now
    ∙ sym c.loop-span.invariant
    ∙ ap (list_all (λ span. list_all (has_stamp kept_character c.args.cells.now) (span_stamps span)))
    (drop_of_length-le c.args.spans.now c.loop-span-test.false))
