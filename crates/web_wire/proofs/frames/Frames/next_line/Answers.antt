use Rattle.std.proofs.Common.{[], inl, inr}
use Rattle.web_wire.proofs.Steps.{goes_on_both, on_error}
use Rattle.web_wire.proofs.frames.Frames.next_line.Goals as goal

pub returns-in_err-step-clause-err : goal.returns-in_err-step-clause-err
returns-in_err-step-clause-err c =
    on_error c.from_residual.result _ (elim c.in_err-step.ensures.err [
      | inl goes ↦ inl (goes_on_both [] _ _ _ _ _ _ c.loop.invariant.goes_on goes)
      | inr ended ↦ inr ended
    ])
