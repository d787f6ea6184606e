-- How much of what was noted a promise stands for.
use Rattle.std.specs.Prelude.{◌≡◌, ℕ, min, Option, Some, None}
use Rattle.store_files.specs.declared.promised.Promised.{Promised}

-- with a store, there is a promise, which stands for the first so many notes: those that are on the disk, and that the standby
-- has where this was promised
abbrev pub IsSaidOf : {A : Type 0} → Option A → Option Promised → ℕ → Type 0
IsSaidOf None kept number = kept ≡ None
IsSaidOf (Some store) None number = ⊥
IsSaidOf (Some store) (Some promised) number = number ≡ min promised.kept.number promised.confirmed.number
