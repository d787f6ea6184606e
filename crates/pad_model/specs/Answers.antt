-- The outcome of a call that may run out of memory. Every other refusal comes before that one.
use Rattle.std.specs.Prelude.{◌≡◌, ◌⊎◌, Result, Err, IsOk}
use Rattle.pad_model.specs.declared.refusal.Refusal.{Refusal}
use Rattle.pad_model.specs.declared.refusal.Refusal.TheVariants.{Memory}

-- the call returned and left what was expected; or it ran out of memory and changed nothing, which may replace a
-- success only
abbrev pub Answers : {A S : Type 0} → S → Result A Refusal × S → Result A Refusal → S → Type 0
Answers old expected result new = ((result ≡ Err Memory) × (new ≡ old) × IsOk expected.0)
    ⊎ (expected ≡ (result, new))

-- the same for a call that changes nothing
abbrev pub Tells : {A : Type 0} → Result A Refusal → Result A Refusal → Type 0
Tells expected result = ((result ≡ Err Memory) × IsOk expected) ⊎ (expected ≡ result)
