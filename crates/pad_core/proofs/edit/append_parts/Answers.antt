use Rattle.std.proofs.Common.{IsTrue, ap, sym, subst, ◌∙◌}
use Rattle.pad_model.specs.Checked.{is_checked}
use Rattle.holdback.specs.Held.{is_ready}
use Rattle.pad_core.specs.Counts.{vector_of}
use Rattle.pad_core.specs.Delivered.{delivery_refusal}
use Rattle.pad_core.proofs.Made.{appended_answers}
use Rattle.pad_core.proofs.Others.{own_ready}
use Rattle.pad_core.proofs.edit.append_parts.Goals as goal

pub append-requires-clause-checked : goal.append-requires-clause-checked
append-requires-clause-checked g c = subst (λ op. IsTrue (is_checked op)) (sym c.in_ok-op.ensures) c.requires.checked

pub append-requires-clause-ready : goal.append-requires-clause-ready
append-requires-clause-ready g c =
    subst (λ op. IsTrue (is_ready (vector_of c.args.ledger.now) op)) (sym c.in_ok-op.ensures)
    (own_ready c.args.writer.replica c.args.writer.author.now c.args.parts c.args.ledger.now)

pub append-requires-clause-allowed : goal.append-requires-clause-allowed
append-requires-clause-allowed g c = ap (λ op. delivery_refusal op c.args.ledger.now) c.in_ok-op.ensures
    ∙ c.requires.allowed

pub returns-clause-answer : goal.returns-clause-answer
returns-clause-answer g c = appended_answers c.args.writer.replica c.args.writer.author.now c.args.parts c.args.ledger.now
    c.append.new.ledger c.in_ok-op.op c.in_ok-hidden.hidden c.in_ok-op.ensures c.in_ok-hidden.ensures.answer
