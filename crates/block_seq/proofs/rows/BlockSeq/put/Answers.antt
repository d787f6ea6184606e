use Rattle.std.proofs.Common.{◌≡◌, inl, inr, Ok, sym, ap, ◌∙◌, subst, refl}
use Rattle.std.specs.Result.{IsErrAnd}
use Rattle.pad_model.specs.declared.refusal.Refusal.TheVariants.{Memory}
use Rattle.pad_model.specs.Cell.{with_run}
use Rattle.pad_model.proofs.Erase.{without_none}
use Rattle.pad_model.proofs.Exits.{answers_memory}
use Rattle.block_seq.proofs.rows.BlockSeq.put.Goals as goal

pub returns-clause-answers : goal.returns-clause-answers
returns-clause-answers c = elim c.in_ok-change.ensures.answers [
  | inl failed ↦ absurd (let e = failed.0 in cc e)
  | inr made ↦ inr (ap (λ l. (Ok tt, l)) (ap (with_run c.args.rev c.args.run.now c.args.author.now)
      (sym (without_none c.args.rev c.args.self.now.cells)) ∙ ap (λ p. p.1) made))
]

pub returns-in_err-change-clause-answers : goal.returns-in_err-change-clause-answers
returns-in_err-change-clause-answers c = elim c.in_err-change.ensures.answers [
  | inl failed ↦
      let same : c.in_err-change.field-0.0 ≡ Memory = (let e = failed.0 in cc e) in
      answers_memory c.from_residual.result
      (subst (λ m. IsErrAnd c.from_residual.result (λ e. e ≡ m)) same c.from_residual.ensures.1) failed.1 refl
  | inr made ↦ absurd (let e = ap (λ p. p.0) made in cc e)
]
