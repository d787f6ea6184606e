-- Who owns a store.
use Rattle.std.specs.Prelude.{ℕ, Bool}

-- the number of a server, whether no server has had it before, and how many visits may be present on each of its pads
pub record Ownership : Type 0 where
  pub replica : ℕ
  pub is_new : Bool
  pub present : ℕ

-- what an owner is made of
abbrev pub ownership : ℕ → Bool → ℕ → Ownership
ownership replica is_new present = record { replica = replica; is_new = is_new; present = present }
