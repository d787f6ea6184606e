use Rattle.std.proofs.Common.{◌≡◌, subst, ap, sym, ◌∙◌, true, false, inr, length, arith, Ok}
use Rattle.pad_model.specs.Cell.{with_run}
use Rattle.pad_model.specs.Log.{run_may_join}
use Rattle.pad_model.proofs.Cells.{insert_run-fault, insert_run-full, insert_run-ok}
use Rattle.pad_model.proofs.Places.{place_in, spliced}
use Rattle.pad_model.proofs.Exits.{answers_memory, is_answered}
use Rattle.block_seq.specs.Plain.{IsPlain, cells_of, kept_character, kept_run}
use Rattle.block_seq.proofs.Kept.{may_join_view, length-cells_of, grown, insert_joined}
use Rattle.block_seq.proofs.plain.PlainSeqSequence.insert_run.Goals as goal

pub returns-then-not-may_join : goal.returns-then-not-may_join
returns-then-not-may_join c =
    let refused : run_may_join kept_character c.self.inside.cells.items c.args.run.now.first c.args.run.now.after
    ≡ false =
    ap (λ l. run_may_join kept_character l c.args.run.now.first c.args.run.now.after) (sym c.as_slice.ensures.value)
    ∙ sym c.may_join.ensures ∙ c.if-not-may_join.true
    in
    inr (insert_run-fault c.args.rev c.args.run.now c.args.author.now c.args.self.now
    (may_join_view c.self.inside.authors.items c.self.inside.cells.items c.args.self.now c.args.run.now.first
    c.args.run.now.after false c.self.view_is refused))

pub returns-then-len-gt-MAX_CHARACTERS : goal.returns-then-len-gt-MAX_CHARACTERS
returns-then-len-gt-MAX_CHARACTERS c =
    let joined : run_may_join kept_character c.self.inside.cells.items c.args.run.now.first c.args.run.now.after
    ≡ true =
    ap (λ l. run_may_join kept_character l c.args.run.now.first c.args.run.now.after) (sym c.as_slice.ensures.value)
    ∙ sym c.may_join.ensures ∙ c.if-not-may_join.false
    in
    let kept : length c.as_slice.result.now ≡ length c.self.inside.cells.items = ap length c.as_slice.ensures.value in
    inr (insert_run-full c.args.rev c.args.run.now c.args.author.now c.args.self.now
    (may_join_view c.self.inside.authors.items c.self.inside.cells.items c.args.self.now c.args.run.now.first
    c.args.run.now.after true c.self.view_is joined)
    (omega (
      arith,
      length-cells_of c.self.inside.authors.items c.self.inside.cells.items c.args.self.now c.self.view_is,
      kept,
      c.as_slice.ensures.len,
    )))

pub invariant_of-self : goal.invariant_of-self
invariant_of-self c = (grown c.self.inside.authors.items c.place_author.new.authors.items c.args.author.now
    c.self.inside.cells.items c.self.invariant c.place_author.ensures.more).0

pub returns-in_err-author : goal.returns-in_err-author
returns-in_err-author c =
    let kept : length c.as_slice.result.now ≡ length c.self.inside.cells.items = ap length c.as_slice.ensures.value in
    answers_memory c.from_residual.result c.from_residual.ensures.1
    ((grown c.self.inside.authors.items c.place_author.new.authors.items c.args.author.now c.self.inside.cells.items
    c.self.invariant c.place_author.ensures.more).1 ∙ c.self.view_is)
    (is_answered (insert_run-ok c.args.rev c.args.run.now c.args.author.now c.args.self.now
    (may_join_view c.self.inside.authors.items c.self.inside.cells.items c.args.self.now c.args.run.now.first
    c.args.run.now.after true c.self.view_is
    (ap (λ l. run_may_join kept_character l c.args.run.now.first c.args.run.now.after) (sym c.as_slice.ensures.value)
    ∙ sym c.may_join.ensures ∙ c.if-not-may_join.false))
    (omega (
      arith,
      length-cells_of c.self.inside.authors.items c.self.inside.cells.items c.args.self.now c.self.view_is,
      kept,
      c.as_slice.ensures.len,
    ))))

pub invariant_of-self-in_err-reserve : goal.invariant_of-self-in_err-reserve
invariant_of-self-in_err-reserve c = subst (IsPlain c.place_author.new.authors.items) (sym c.reserve.ensures.items)
    (grown c.self.inside.authors.items c.place_author.new.authors.items c.args.author.now c.self.inside.cells.items
    c.self.invariant c.place_author.ensures.more).0

pub returns-in_err-reserve : goal.returns-in_err-reserve
returns-in_err-reserve c =
    let kept : length c.as_slice.result.now ≡ length c.self.inside.cells.items = ap length c.as_slice.ensures.value in
    answers_memory c.from_residual-in_err-reserve.result c.from_residual-in_err-reserve.ensures.1
    (ap (cells_of c.place_author.new.authors.items) c.reserve.ensures.items
    ∙ (grown c.self.inside.authors.items c.place_author.new.authors.items c.args.author.now c.self.inside.cells.items
    c.self.invariant c.place_author.ensures.more).1 ∙ c.self.view_is)
    (is_answered (insert_run-ok c.args.rev c.args.run.now c.args.author.now c.args.self.now
    (may_join_view c.self.inside.authors.items c.self.inside.cells.items c.args.self.now c.args.run.now.first
    c.args.run.now.after true c.self.view_is
    (ap (λ l. run_may_join kept_character l c.args.run.now.first c.args.run.now.after) (sym c.as_slice.ensures.value)
    ∙ sym c.may_join.ensures ∙ c.if-not-may_join.false))
    (omega (
      arith,
      length-cells_of c.self.inside.authors.items c.self.inside.cells.items c.args.self.now c.self.view_is,
      kept,
      c.as_slice.ensures.len,
    ))))

joins : (c : goal.After-put_run) → run_may_join kept_character c.self.inside.cells.items c.args.run.now.first
    c.args.run.now.after ≡ true
joins c = ap (λ l. run_may_join kept_character l c.args.run.now.first c.args.run.now.after)
    (sym c.as_slice.ensures.value) ∙ sym c.may_join.ensures ∙ c.if-not-may_join.false

done : (c : goal.After-put_run) → IsPlain c.place_author.new.authors.items c.put_run.new.cells.items
    × (cells_of c.place_author.new.authors.items c.put_run.new.cells.items
    ≡ with_run c.args.rev c.args.run.now c.args.author.now c.args.self.now)
done c =
    insert_joined c.self.inside.authors.items c.place_author.new.authors.items c.args.author.now
    c.self.inside.cells.items c.put_run.new.cells.items c.args.self.now c.args.run.now c.in_ok-author.author c.args.rev
    c.self.invariant c.self.view_is c.place_author.ensures.more c.in_ok-author.ensures.place (joins c)
    (c.put_run.ensures.items ∙ ap (λ l. spliced (place_in kept_character c.args.run.now.after c.args.run.now.first l)
    (kept_run c.args.run.now.first c.args.run.now.after c.args.run.now.text c.in_ok-author.author c.args.rev) l)
    c.reserve.ensures.items)

pub invariant_of-self-2 : goal.invariant_of-self-2
invariant_of-self-2 c = (done c).0

pub returns : goal.returns
returns c =
    let kept : length c.as_slice.result.now ≡ length c.self.inside.cells.items = ap length c.as_slice.ensures.value in
    inr (insert_run-ok c.args.rev c.args.run.now c.args.author.now c.args.self.now
    (may_join_view c.self.inside.authors.items c.self.inside.cells.items c.args.self.now c.args.run.now.first
    c.args.run.now.after true c.self.view_is (joins c))
    (omega (
      arith,
      length-cells_of c.self.inside.authors.items c.self.inside.cells.items c.args.self.now c.self.view_is,
      kept,
      c.as_slice.ensures.len,
    ))
    ∙ ap (λ l. (Ok tt, l)) (sym (done c).1))
