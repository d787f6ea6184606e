use Rattle.std.proofs.Common.{◌≡◌, ◌+◌, true, ◌∷◌, [], ◌++◌, Ok, sym, ap, subst, ◌∙◌}
use Rattle.pad_model.specs.Answers.{Answers}
use Rattle.pad_model.specs.Operation.{characters_in, erased_by}
use Rattle.pad_model.specs.Seen.{count_in}
use Rattle.pad_model.specs.Visible.{hidden_by}
use Rattle.holdback.specs.Held.{is_ready}
use Rattle.pad_core.specs.Counts.{vector_of}
use Rattle.pad_core.specs.Delivered.{delivery_refusal}
use Rattle.pad_core.proofs.Counted.{ready_is}
use Rattle.pad_core.proofs.Exits.{answers_passed}
use Rattle.pad_core.proofs.Entered.{IsLedger-push, IsLedger-kept, append_answers, append_fails}
use Rattle.pad_core.proofs.ledger.Ledger.append.Goals as goal

pub count_and_enter-requires-clause-ledger : goal.count_and_enter-requires-clause-ledger
count_and_enter-requires-clause-ledger g c = c.self.invariant

pub count_and_enter-requires-clause-next : goal.count_and_enter-requires-clause-next
count_and_enter-requires-clause-next g c =
    subst (λ log. c.args.op.name.number ≡ count_in (vector_of log) c.args.op.name.origin + 1)
    (sym c.self.view_is) (ready_is _ c.args.op c.requires.ready).0

pub count_and_enter-requires-clause-allowed : goal.count_and_enter-requires-clause-allowed
count_and_enter-requires-clause-allowed g c = ap (delivery_refusal c.args.op) c.self.view_is ∙ c.requires.allowed

pub invariant_of-self-2 : goal.invariant_of-self-2
invariant_of-self-2 g c =
    IsLedger-push c.self.inside.log.operations c.commit.new.self.operations c.args.op c.self.inside.seen
    c.count_and_enter.new.seen (g.S.Sequence.cells c.self.inside.sequence)
    (g.S.Sequence.cells c.count_and_enter.new.sequence) c.self.inside.comments c.count_and_enter.new.comments
    c.in_ok-hidden.hidden
    c.self.invariant c.requires.checked
    (subst (λ log. is_ready (vector_of log) c.args.op ≡ true) (sym c.self.view_is) c.requires.ready)
    (ap (delivery_refusal c.args.op) c.self.view_is ∙ c.requires.allowed) c.in_ok-hidden.ensures.entered
    (c.commit.ensures.operations ∙ ap (λ log. log ++ c.args.op ∷ []) c.count_and_enter.ensures.log) c.in_ok-hidden.ensures.counted

pub returns : goal.returns
returns g c =
    subst (λ log. Answers log (Ok (hidden_by (erased_by c.args.op) (characters_in log)), log ++ c.args.op ∷ [])
    (Ok c.in_ok-hidden.hidden) c.commit.new.self.operations) c.self.view_is
    (append_answers c.self.inside.log.operations c.commit.new.self.operations c.args.op
    (g.S.Sequence.cells c.self.inside.sequence, c.self.inside.comments)
    (g.S.Sequence.cells c.count_and_enter.new.sequence, c.count_and_enter.new.comments) c.in_ok-hidden.hidden
    c.in_ok-hidden.ensures.entered
    (c.commit.ensures.operations ∙ ap (λ log. log ++ c.args.op ∷ []) c.count_and_enter.ensures.log))

pub invariant_of-self : goal.invariant_of-self
invariant_of-self g c =
    IsLedger-kept c.self.inside.log.operations c.count_and_enter.new.log.operations c.args.op c.self.inside.seen
    c.count_and_enter.new.seen (g.S.Sequence.cells c.self.inside.sequence)
    (g.S.Sequence.cells c.count_and_enter.new.sequence) c.self.inside.comments c.count_and_enter.new.comments
    c.in_err-hidden.field-0.0
    c.self.invariant c.count_and_enter.ensures.log c.in_err-hidden.ensures.uncounted c.in_err-hidden.ensures.entered

pub returns-in_err-hidden : goal.returns-in_err-hidden
returns-in_err-hidden g c =
    subst (λ log. Answers log (
      Ok (hidden_by (erased_by c.args.op) (characters_in log)),
      log ++ c.args.op
          ∷ [],
    ) c.from_residual.result c.count_and_enter.new.log.operations) c.self.view_is
    (answers_passed c.from_residual.result c.from_residual.ensures.1
    (append_fails c.self.inside.log.operations c.count_and_enter.new.log.operations c.args.op
    (g.S.Sequence.cells c.self.inside.sequence, c.self.inside.comments)
    (g.S.Sequence.cells c.count_and_enter.new.sequence, c.count_and_enter.new.comments) c.in_err-hidden.field-0.0
    c.in_err-hidden.ensures.entered
    c.count_and_enter.ensures.log))
