use Rattle.std.proofs.Common.{rules, ◌≡◌, ◌+◌, true, false, Some, None, slice_get, sym, ap, subst, ◌∙◌, arith}
use Rattle.std.specs.List.{AllByRecursion, list_all}
use Rattle.pad_model.specs.Cell.{IsBy}
use Rattle.pad_model.specs.Checked.{is_edit}
use Rattle.pad_model.proofs.Pushed.{IsBy-cells_of}
use Rattle.pad_core.specs.Book.{may_enter}
use Rattle.pad_core.proofs.Entered.{edit_enters, note_enters, some_part, takes}
use Rattle.pad_core.proofs.Judged.{parts_of_checked}
use Rattle.pad_core.proofs.enter.enter.Goals.{in-Some+in_ok-enter_note, in_default}
use Rattle.pad_core.proofs.enter.enter.Goals as goal

pub apply-requires-clause-checked : goal.apply-requires-clause-checked
apply-requires-clause-checked g c =
    let origin : c.in_ok-author.author.origin ≡ c.args.op.now.name.origin = ap (λ a. a.origin) c.in_ok-author.ensures in
    rw (origin, c.as_slice.ensures) (parts_of_checked c.args.op.now c.requires.checked)

pub apply-requires-clause-latest : goal.apply-requires-clause-latest
apply-requires-clause-latest g c =
    subst (AllByRecursion (IsBy (c.len-rev.result + 1))) (sym c.requires.kept)
    (IsBy-cells_of c.args.log.now.operations (c.len-rev.result + 1) c.requires.delivered.history (omega arith))

pub returns-then-is_edit : goal.returns-then-is_edit
returns-then-is_edit g c =
    edit_enters c.args.log.now.operations c.args.op.now (g.S.Sequence.cells c.args.sequence.now)
    (g.S.Sequence.cells c.apply.new.self) c.args.comments.now c.as_slice.result.now c.in_ok-author.author
    (c.len-rev.result + 1) c.apply.result
    c.requires.delivered c.requires.kept c.requires.commented c.as_slice.ensures c.in_ok-author.ensures
    (omega arith) c.requires.checked (sym c.is_edit.ensures ∙ c.if-is_edit.true) c.requires.allowed c.apply.ensures

pub enter_note-requires-clause-fits : goal.enter_note-requires-clause-fits
enter_note-requires-clause-fits g c =
    let first_is : slice_get c.args.op.now.parts 0 ≡ Some c.in-Some.part.now = search rules in
    subst (λ b. may_enter c.args.op.now.name b c.in-Some.part.now ≡ true) (sym c.requires.commented)
    (takes c.args.log.now.operations c.args.op.now c.in-Some.part.now c.requires.delivered c.requires.checked
    c.requires.next c.requires.allowed (sym c.is_edit.ensures ∙ c.if-is_edit.false) first_is)

pub returns : goal.returns
returns g c =
    let notes : list_all is_edit c.args.op.now.parts ≡ false = sym c.is_edit.ensures ∙ c.if-is_edit.false in
    elim c.match-get.branch [
      | in-Some+in_ok-enter_note w ↦
          (let first_is : slice_get c.args.op.now.parts 0 ≡ Some w.in-Some.part.now = search rules in
          note_enters c.args.log.now.operations c.args.op.now w.in-Some.part.now
          (g.S.Sequence.cells c.args.sequence.now) c.args.comments.now c.match-get.comments (c.len-rev.result + 1)
          c.requires.delivered c.requires.kept c.requires.commented (omega arith) c.requires.checked c.requires.allowed
          notes first_is (w.comments-is ∙ w.in_ok-enter_note.ensures.ok))
      | in_default w ↦
          (let empty : slice_get c.args.op.now.parts 0 ≡ None = search rules in
          absurd (some_part c.args.op.now c.requires.checked notes empty))
    ]
