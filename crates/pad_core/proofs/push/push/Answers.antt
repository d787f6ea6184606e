use Rattle.std.proofs.Common.{inl}
use Rattle.pad_core.specs.Exchange.{received}
use Rattle.pad_core.proofs.Exits.{answers_passed}
use Rattle.pad_core.proofs.Receives.{push_refused}
use Rattle.pad_core.proofs.push.push.Goals as goal

pub returns-in_err-state-clause-answer : goal.returns-in_err-state-clause-answer
returns-in_err-state-clause-answer g c =
    inl (answers_passed c.from_residual.result c.from_residual.ensures.1
    (push_refused (c.args.ledger.now, c.args.held.now) (c.receive.new.ledger, c.receive.new.held)
    c.in_err-state.field-0.0 (received c.args.replica c.args.op.now (c.args.ledger.now, c.args.held.now))
    c.in_err-state.ensures.answer))
