use Rattle.std.proofs.Common.{Some, IsTrue, sym, ap, ◌∙◌, subst}
use Rattle.pad_model.specs.Checked.{is_checked}
use Rattle.holdback.specs.Held.{is_ready}
use Rattle.pad_core.specs.Counts.{vector_of}
use Rattle.pad_core.specs.Delivered.{delivery_refusal}
use Rattle.pad_core.specs.Released.{delivery}
use Rattle.pad_core.proofs.Exits.{fails_passed}
use Rattle.pad_core.proofs.Releases.{AreChecked, found_checked, without_checked, appended_err, ready_found, stuck}
use Rattle.pad_core.proofs.push.release.Goals as goal

pub refusal_of-requires : goal.refusal_of-requires
refusal_of-requires g c = found_checked (is_ready (vector_of c.args.ledger.now)) c.args.held.now c.in-Some.op.now
    c.requires.held (sym c.in-Some.ensures)

pub returns-in-Some-refusal_of-clause-held : goal.returns-in-Some-refusal_of-clause-held
returns-in-Some-refusal_of-clause-held g c = subst AreChecked (sym c.take.ensures.rest)
    (without_checked c.in-Some.op.now.name c.args.held.now c.requires.held)

pub append-requires-clause-checked : goal.append-requires-clause-checked
append-requires-clause-checked g c =
    subst (λ op. IsTrue (is_checked op)) (sym c.in_ok-op.ensures.cases)
    (found_checked (is_ready (vector_of c.args.ledger.now)) c.args.held.now c.in-Some.op.now c.requires.held
    (sym c.in-Some.ensures))

pub append-requires-clause-ready : goal.append-requires-clause-ready
append-requires-clause-ready g c =
    ready_found (vector_of c.args.ledger.now) c.args.held.now c.in_ok-op.op (sym c.in-Some.ensures
    ∙ ap Some (sym c.in_ok-op.ensures.cases))

pub append-requires-clause-allowed : goal.append-requires-clause-allowed
append-requires-clause-allowed g c = ap (λ op. delivery_refusal op c.args.ledger.now) c.in_ok-op.ensures.cases
    ∙ sym c.refusal_of.ensures ∙ c.in_default-refusal_of.is

pub returns-clause-held : goal.returns-clause-held
returns-clause-held g c = subst AreChecked (sym c.take-2.ensures.rest)
    (without_checked c.in-Some.op.now.name c.args.held.now c.requires.held)

pub returns-in_err-append-clause-memory : goal.returns-in_err-append-clause-memory
returns-in_err-append-clause-memory g c =
    let failed = appended_err c.args.ledger.now c.append.new.ledger _ _ c.in_err-append.field-0.0
    c.in_err-append.ensures.answer in
    fails_passed _ c.from_residual-in_err-append.result c.from_residual-in_err-append.ensures.1 (
      failed.0,
      ap (λ log. delivery c.args.released.now log c.args.held.now) failed.1,
      stuck c.args.ledger.now c.append.new.ledger c.args.held.now c.in-Some.op.now c.in_ok-op.op c.refusal_of.result
          c.in-Some.ensures c.in_ok-op.ensures.cases c.refusal_of.ensures c.in_default-refusal_of.is failed.1,
    )
