-- What `--confirm` takes.
use Rattle.std.specs.Prelude.{◌≡◌, ◌≢◌, ◌≤◌, ℕ, List, codes, Option, Some, None}
use Rattle.std.specs.Str.Parse.{IsNumeral, digits_value, without_leading_plus}
use Rattle.group_commit.specs.declared.confirming.Confirm.{Confirm}
use Rattle.group_commit.specs.declared.confirming.Confirm.TheVariants as policy

-- a word is a number of seconds, 1 to 86,400, in decimal digits
abbrev pub AreSeconds : ℕ → List ℕ → Type 0
AreSeconds seconds word = (1 ≤ seconds) × (seconds ≤ 86400) × IsNumeral 10 (without_leading_plus word)
    × (digits_value 10 (without_leading_plus word) ≡ seconds)

-- what replies wait for by a word: `strict`, or a number of seconds
abbrev pub IsConfirm : List ℕ → Option Confirm → Type 0
IsConfirm word (Some policy.Never) = ⊥
IsConfirm word (Some policy.Strict) = word ≡ codes "strict"
IsConfirm word (Some (policy.Within seconds)) = AreSeconds seconds word
IsConfirm word None = (word ≢ codes "strict") × ((seconds : ℕ) → AreSeconds seconds word → ⊥)
