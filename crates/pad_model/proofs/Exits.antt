-- Exits of calls that found no memory.
use Rattle.std.proofs.Common.{◌≡◌, Result, Ok, Err, IsOk, is_ok, ap, ◌∙◌, inl, IsErrAnd}
use Rattle.std.proofs.lemmas.Result.{err_from_is_err_and}
use Rattle.pad_model.specs.Answers.{Answers, Tells}
use Rattle.pad_model.specs.declared.refusal.Refusal.{Refusal}
use Rattle.pad_model.specs.declared.refusal.Refusal.TheVariants.{Memory}

-- what a `?` returns after it turned the error into Memory
pub memory_exit : {A : Type 0} (r : Result A Refusal) → IsErrAnd r (λ e. e ≡ Memory) → r ≡ Err Memory
memory_exit r h = let p = err_from_is_err_and r h in p.1 ∙ ap Err p.2

-- such an exit that changed nothing, of a call that should have succeeded
pub answers_memory : {A S : Type 0} {old new : S} {expected : Result A Refusal × S} (r : Result A Refusal) →
    IsErrAnd r (λ e. e ≡ Memory) → new ≡ old → IsOk expected.0 → Answers old expected r new
answers_memory r h e ok = inl (memory_exit r h, e, ok)

-- the same for a call that changes nothing
pub tells_memory : {A : Type 0} {expected : Result A Refusal} (r : Result A Refusal) → IsErrAnd r (λ e. e ≡ Memory) →
    IsOk expected → Tells expected r
tells_memory r h ok = inl (memory_exit r h, ok)

-- a result that is known to be a success is not a refusal
pub is_answered : {A S : Type 0} {expected : Result A Refusal × S} {a : A} {s : S} → expected ≡ (Ok a, s) →
    IsOk expected.0
is_answered e = ap (λ x. is_ok x.0) e
