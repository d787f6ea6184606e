-- What a call answers whose `?` passes a refusal on.
use Rattle.std.proofs.Common.{◌≡◌, Result, Ok, Err, IfErr, IsErrAnd, sym, ap, subst}
use Rattle.pad_model.specs.Answers.{Answers}
use Rattle.pad_model.specs.declared.refusal.Refusal.{Refusal}

-- the `?` returns the refusal
pub passed_on : {A E : Type 0} {e : E} (r : Result A E) → IsErrAnd r (λ x. x ≡ e) → r ≡ Err e
passed_on (Err x) h = ap Err h
passed_on (Ok x) h = absurd h

-- so the call answers what is proved of the refusal
pub answers_passed : {A S : Type 0} {old new : S} {expected : Result A Refusal × S} {e : Refusal}
    (r : Result A Refusal) → IsErrAnd r (λ x. x ≡ e) → Answers old expected (Err e) new → Answers old expected r new
answers_passed {old = old} {new = new} {expected = expected} r h a = subst (λ x. Answers old expected x new)
    (sym (passed_on r h)) a

-- and its refusal has what is proved of that one
pub fails_passed : {A E : Type 0} {e : E} (P : E → Type 0) (r : Result A E) → IsErrAnd r (λ x. x ≡ e) → P e → IfErr r P
fails_passed P (Err x) h p = subst P (sym h) p
fails_passed P (Ok x) h p = absurd h
