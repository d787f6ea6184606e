use Rattle.std.proofs.Common.{length, map, ap, ◌∙◌, inr}
use Rattle.std.proofs.lemmas.List.{with_items_is, length-map}
use Rattle.std.specs.List.{count_by}
use Rattle.block_seq.specs.Plain.{erased_at, is_hidden_by}
use Rattle.block_seq.proofs.Kept.{distinct_kept, has_spans-view, delete-fault, delete-done, IsPlain-erased}
use Rattle.block_seq.proofs.plain.PlainSeqSequence.delete_spans.Goals as goal

pub has_spans-requires-clause-distinct : goal.has_spans-requires-clause-distinct
has_spans-requires-clause-distinct c = distinct_kept c.self.inside.authors.items c.self.inside.cells.items
    c.as_slice.result.now c.self.invariant c.as_slice.ensures.value

pub returns-then-not-has_spans : goal.returns-then-not-has_spans
returns-then-not-has_spans c =
    inr (delete-fault c.args.rev c.args.spans.now c.args.self.now
    (has_spans-view c.self.inside.authors.items c.self.inside.cells.items c.as_slice.result.now c.args.self.now
    c.args.spans.now c.has_spans.result c.self.view_is c.as_slice.ensures.value c.has_spans.ensures
    ∙ c.if-not-has_spans.true))

pub invariant_of-self : goal.invariant_of-self
invariant_of-self c =
    IsPlain-erased c.self.inside.authors.items c.args.rev c.args.spans.now c.self.inside.cells.items _ c.self.invariant
    (with_items_is c.self.inside.cells c.erase.new.cells (ap length c.erase.ensures
    ∙ length-map c.as_mut_slice.result.now (erased_at c.args.rev c.args.spans.now) ∙ c.as_mut_slice.ensures.len)
    ∙ c.erase.ensures ∙ ap (map (erased_at c.args.rev c.args.spans.now)) c.as_mut_slice.ensures.value)

pub returns : goal.returns
returns c =
    inr (delete-done c.args.rev c.args.spans.now c.self.inside.authors.items c.self.inside.cells.items _ c.args.self.now
    c.count_hidden-hidden.result c.self.view_is
    (has_spans-view c.self.inside.authors.items c.self.inside.cells.items c.as_slice.result.now c.args.self.now
    c.args.spans.now c.has_spans.result c.self.view_is c.as_slice.ensures.value c.has_spans.ensures
    ∙ c.if-not-has_spans.false)
    (with_items_is c.self.inside.cells c.erase.new.cells (ap length c.erase.ensures
    ∙ length-map c.as_mut_slice.result.now (erased_at c.args.rev c.args.spans.now) ∙ c.as_mut_slice.ensures.len)
    ∙ c.erase.ensures ∙ ap (map (erased_at c.args.rev c.args.spans.now)) c.as_mut_slice.ensures.value)
    (c.count_hidden-hidden.ensures ∙ ap (count_by (is_hidden_by c.args.spans.now)) c.as_slice-2.ensures.value))
