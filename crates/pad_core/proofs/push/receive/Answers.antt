use Rattle.std.proofs.Common.{sym, ap, ◌∙◌, ◌||◌}
use Rattle.std.proofs.lemmas.Bool.{ne_eqb}
use Rattle.holdback.specs.Held.{is_covered, is_held, is_ready}
use Rattle.pad_core.proofs.Receives.{answer_known, answer_own, answer_ready, answer_waits, waiting_checked}
use Rattle.pad_core.proofs.push.receive.Goals as goal

pub returns-then-is_known-clause-answer : goal.returns-then-is_known-clause-answer
returns-then-is_known-clause-answer g c = answer_known c.args.replica c.args.ledger.now c.args.held.now c.args.op.now
    c.in_ok-check.ensures (sym c.is_known.ensures ∙ c.if-is_known.true)

pub returns-then-op-replica-clause-answer : goal.returns-then-op-replica-clause-answer
returns-then-op-replica-clause-answer g c = answer_own c.args.replica c.args.ledger.now c.args.held.now c.args.op.now
    c.in_ok-check.ensures (sym c.is_known.ensures ∙ c.if-is_known.false) c.if-op-replica.true

pub deliver-requires-clause-ready : goal.deliver-requires-clause-ready
deliver-requires-clause-ready g c = ap (λ v. is_ready v c.args.op.now) (sym c.seen.ensures) ∙ sym c.is_ready.ensures
    ∙ c.if-is_ready.true

pub returns-then-is_ready-clause-answer : goal.returns-then-is_ready-clause-answer
returns-then-is_ready-clause-answer g c =
    answer_ready c.args.replica c.args.ledger.now c.deliver.new.ledger c.args.held.now c.args.op.now c.deliver.result
    c.in_ok-check.ensures (sym c.is_known.ensures ∙ c.if-is_known.false)
    (ne_eqb c.args.op.now.name.origin c.args.replica c.if-op-replica.false)
    (ap (λ v. is_ready v c.args.op.now) (sym c.seen.ensures) ∙ sym c.is_ready.ensures ∙ c.if-is_ready.true)
    (c.deliver.ensures.answer c.args.held.now)

pub hold_back-requires-clause-new : goal.hold_back-requires-clause-new
hold_back-requires-clause-new g c = ap (λ v. is_covered v c.args.op.now.name
    || is_held c.args.op.now.name c.args.held.now) c.seen-2.ensures ∙ sym c.is_known.ensures ∙ c.if-is_known.false

pub hold_back-requires-clause-waits : goal.hold_back-requires-clause-waits
hold_back-requires-clause-waits g c = ap (λ v. is_ready v c.args.op.now) (c.seen-2.ensures ∙ sym c.seen.ensures)
    ∙ sym c.is_ready.ensures ∙ c.if-is_ready.false

pub returns-clause-answer : goal.returns-clause-answer
returns-clause-answer g c =
    answer_waits c.args.replica c.args.ledger.now c.args.held.now c.hold_back.new.held c.args.op.now c.hold_back.result
    c.in_ok-check.ensures (sym c.is_known.ensures ∙ c.if-is_known.false)
    (ne_eqb c.args.op.now.name.origin c.args.replica c.if-op-replica.false)
    (ap (λ v. is_ready v c.args.op.now) (sym c.seen.ensures) ∙ sym c.is_ready.ensures ∙ c.if-is_ready.false)
    c.hold_back.ensures.answer

pub returns-clause-held : goal.returns-clause-held
returns-clause-held g c = waiting_checked c.args.op.now c.args.held.now c.hold_back.new.held c.hold_back.result
    c.in_ok-check.ensures c.requires.held c.hold_back.ensures.answer
