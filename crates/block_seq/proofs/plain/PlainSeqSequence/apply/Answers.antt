use Rattle.std.proofs.Common.{◌≡◌, ap, ap₂, sym, subst, ◌∙◌, true, inr, length, map, count_by, arith, Ok}
use Rattle.std.proofs.lemmas.List.{with_items_is, length-map}
use Rattle.std.specs.List.{list_all}
use Rattle.pad_model.specs.Cell.{character_of, is_hidden_by as hidden_by}
use Rattle.pad_model.specs.Parts.{part_fits, spans_in, with_parts}
use Rattle.pad_model.proofs.Exits.{answers_memory, is_answered}
use Rattle.block_seq.specs.Plain.{IsPlain, cells_of, is_hidden_by, erased_at}
use Rattle.block_seq.proofs.Applied.{runs_checked, spans_checked, length-inserts_in, parts_fit-view, parts_joined}
use Rattle.block_seq.proofs.Applied.{apply-fault, apply-full, apply-ok}
use Rattle.block_seq.proofs.Kept.{distinct_kept, length-cells_of, grown, hidden-cells_of}
use Rattle.block_seq.proofs.plain.PlainSeqSequence.apply.Goals as goal

pub each_fits-requires-clause-distinct : goal.each_fits-requires-clause-distinct
each_fits-requires-clause-distinct c = distinct_kept c.self.inside.authors.items c.self.inside.cells.items
    c.as_slice.result.now c.self.invariant c.as_slice.ensures.value

pub each_fits-requires-clause-checked : goal.each_fits-requires-clause-checked
each_fits-requires-clause-checked c = spans_checked c.args.author.now.origin c.args.parts.now c.requires.checked

pub returns-then-not-each_fits : goal.returns-then-not-each_fits
returns-then-not-each_fits c =
    inr (apply-fault c.args.rev c.args.parts.now c.args.author.now c.args.self.now c.requires.checked
    (parts_fit-view c.self.inside.authors.items c.self.inside.cells.items c.as_slice.result.now c.args.self.now
    c.args.parts.now c.each_fits.result c.self.view_is c.as_slice.ensures.value c.each_fits.ensures
    ∙ c.if-not-each_fits.true))

pub overflow_add-len : goal.overflow_add-len
overflow_add-len c = omega (arith, c.count_inserted-more.ensures.within, c.len.ensures, c.self.inside.cells.small)

pub returns-then-len-more-gt-MAX_CHARACTERS : goal.returns-then-len-more-gt-MAX_CHARACTERS
returns-then-len-more-gt-MAX_CHARACTERS c =
    let kept : length c.as_slice.result.now ≡ length c.self.inside.cells.items = ap length c.as_slice.ensures.value in
    inr (apply-full c.args.rev c.args.parts.now c.args.author.now c.args.self.now c.requires.checked
    (parts_fit-view c.self.inside.authors.items c.self.inside.cells.items c.as_slice.result.now c.args.self.now
    c.args.parts.now c.each_fits.result c.self.view_is c.as_slice.ensures.value c.each_fits.ensures
    ∙ c.if-not-each_fits.false)
    (omega (
      arith,
      length-cells_of c.self.inside.authors.items c.self.inside.cells.items c.args.self.now c.self.view_is,
      kept,
      c.as_slice.ensures.len,
      length-inserts_in c.args.author.now c.args.parts.now,
    )))

pub invariant_of-self : goal.invariant_of-self
invariant_of-self c = (grown c.self.inside.authors.items c.place_author.new.authors.items c.args.author.now
    c.self.inside.cells.items c.self.invariant c.place_author.ensures.more).0

pub returns-in_err-author : goal.returns-in_err-author
returns-in_err-author c =
    let kept : length c.as_slice.result.now ≡ length c.self.inside.cells.items = ap length c.as_slice.ensures.value in
    answers_memory c.from_residual.result c.from_residual.ensures.1
    ((grown c.self.inside.authors.items c.place_author.new.authors.items c.args.author.now c.self.inside.cells.items
    c.self.invariant c.place_author.ensures.more).1 ∙ c.self.view_is)
    (is_answered (apply-ok c.args.rev c.args.parts.now c.args.author.now c.args.self.now c.requires.checked
    (parts_fit-view c.self.inside.authors.items c.self.inside.cells.items c.as_slice.result.now c.args.self.now
    c.args.parts.now c.each_fits.result c.self.view_is c.as_slice.ensures.value c.each_fits.ensures
    ∙ c.if-not-each_fits.false)
    (omega (
      arith,
      length-cells_of c.self.inside.authors.items c.self.inside.cells.items c.args.self.now c.self.view_is,
      kept,
      c.as_slice.ensures.len,
      length-inserts_in c.args.author.now c.args.parts.now,
    ))))

pub invariant_of-self-in_err-reserve : goal.invariant_of-self-in_err-reserve
invariant_of-self-in_err-reserve c =
    subst (IsPlain c.place_author.new.authors.items) (sym c.reserve.ensures.items)
    (grown c.self.inside.authors.items c.place_author.new.authors.items c.args.author.now c.self.inside.cells.items
    c.self.invariant c.place_author.ensures.more).0

pub returns-in_err-reserve : goal.returns-in_err-reserve
returns-in_err-reserve c =
    let kept : length c.as_slice.result.now ≡ length c.self.inside.cells.items = ap length c.as_slice.ensures.value in
    answers_memory c.from_residual-in_err-reserve.result c.from_residual-in_err-reserve.ensures.1
    (ap (cells_of c.place_author.new.authors.items) c.reserve.ensures.items
    ∙ (grown c.self.inside.authors.items c.place_author.new.authors.items c.args.author.now c.self.inside.cells.items
    c.self.invariant c.place_author.ensures.more).1 ∙ c.self.view_is)
    (is_answered (apply-ok c.args.rev c.args.parts.now c.args.author.now c.args.self.now c.requires.checked
    (parts_fit-view c.self.inside.authors.items c.self.inside.cells.items c.as_slice.result.now c.args.self.now
    c.args.parts.now c.each_fits.result c.self.view_is c.as_slice.ensures.value c.each_fits.ensures
    ∙ c.if-not-each_fits.false)
    (omega (
      arith,
      length-cells_of c.self.inside.authors.items c.self.inside.cells.items c.args.self.now c.self.view_is,
      kept,
      c.as_slice.ensures.len,
      length-inserts_in c.args.author.now c.args.parts.now,
    ))))

pub put_runs-requires-clause-checked : goal.put_runs-requires-clause-checked
put_runs-requires-clause-checked c = runs_checked c.args.author.now.origin c.args.parts.now c.requires.checked

fit : (c : goal.After-put_runs) → list_all (part_fits character_of c.args.self.now) c.args.parts.now ≡ true
fit c = parts_fit-view c.self.inside.authors.items c.self.inside.cells.items c.as_slice.result.now c.args.self.now
    c.args.parts.now c.each_fits.result c.self.view_is c.as_slice.ensures.value c.each_fits.ensures
    ∙ c.if-not-each_fits.false

done : (c : goal.After-put_runs) → IsPlain c.place_author.new.authors.items c.put_runs.new.cells.items
    × (cells_of c.place_author.new.authors.items c.put_runs.new.cells.items
    ≡ with_parts c.args.rev c.args.parts.now c.args.author.now c.args.self.now)
done c =
    parts_joined c.self.inside.authors.items c.place_author.new.authors.items c.args.author.now
    c.self.inside.cells.items _ c.put_runs.new.cells.items c.args.self.now c.args.parts.now c.in_ok-author.author
    c.args.rev
    c.self.invariant c.self.view_is c.place_author.ensures.more c.in_ok-author.ensures.place c.requires.checked (fit c)
    (with_items_is c.reserve.new.self c.erase_parts-hidden.new.cells (ap length c.erase_parts-hidden.ensures.cells
    ∙ length-map c.as_mut_slice.result.now (erased_at c.args.rev (spans_in c.args.parts.now))
    ∙ c.as_mut_slice.ensures.len)
    ∙ c.erase_parts-hidden.ensures.cells ∙ ap (map (erased_at c.args.rev (spans_in c.args.parts.now)))
    (c.as_mut_slice.ensures.value ∙ c.reserve.ensures.items))
    c.put_runs.ensures

pub invariant_of-self-2 : goal.invariant_of-self-2
invariant_of-self-2 c = (done c).0

pub returns : goal.returns
returns c =
    let kept : length c.as_slice.result.now ≡ length c.self.inside.cells.items = ap length c.as_slice.ensures.value in
    inr (apply-ok c.args.rev c.args.parts.now c.args.author.now c.args.self.now c.requires.checked (fit c)
    (omega (
      arith,
      length-cells_of c.self.inside.authors.items c.self.inside.cells.items c.args.self.now c.self.view_is,
      kept,
      c.as_slice.ensures.len,
      length-inserts_in c.args.author.now c.args.parts.now,
    ))
    ∙ ap₂ (λ n l. (Ok n, l)) (ap (count_by (hidden_by (spans_in c.args.parts.now))) (sym c.self.view_is)
    ∙ hidden-cells_of c.self.inside.authors.items (spans_in c.args.parts.now) c.self.inside.cells.items
    ∙ sym (c.erase_parts-hidden.ensures.value ∙ ap (count_by (is_hidden_by (spans_in c.args.parts.now)))
    (c.as_mut_slice.ensures.value ∙ c.reserve.ensures.items))) (sym (done c).1))
