-- Timestamps and their order (Lamport 1978).
use Rattle.std.specs.Prelude.{ℕ, ◌≤◌, Bool, ◌&&◌, ◌||◌, ◌==◌, nat_lt}
use Rattle.pad_model.specs.declared.limits.TheConstants.{MAX_COUNTER, MAX_REPLICA}

-- the clock of a replica when a character was inserted
pub record Stamp : Type 0 where
  pub counter : ℕ
  pub replica : ℕ

-- counters are 1 to 2^48, and replica numbers are 1 to 65,535
abbrev pub IsInLimits : ℕ → ℕ → Type 0
IsInLimits counter replica = (1 ≤ counter) × (counter ≤ MAX_COUNTER) × (1 ≤ replica)
    × (replica ≤ MAX_REPLICA)

-- a is newer than b: its counter is greater, or the counters are equal and its replica number is greater
abbrev pub newer : Stamp → Stamp → Bool
newer a b = nat_lt b.counter a.counter || (a.counter == b.counter && nat_lt b.replica a.replica)

-- a and b are the same stamp
abbrev pub same_stamp : Stamp → Stamp → Bool
same_stamp a b = a.counter == b.counter && a.replica == b.replica
