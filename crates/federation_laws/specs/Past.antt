-- Why an operation that was valid where it was made is valid elsewhere.
use Rattle.std.specs.Prelude.{◌≡◌, ℕ, ◌+◌, List, [], Contains, IsTrue}
use Rattle.pad_model.specs.History.{IsHistory}
use Rattle.pad_model.specs.Log.{is_valid}
use Rattle.pad_model.specs.Seen.{count_in, with_count}
use Rattle.pad_model.specs.declared.op.Op.{Op}
use Rattle.pad_core.specs.Counts.{AreNumbered, vector_of}

-- each operation of one list is in another
abbrev pub IsWithin : List Op → List Op → Type 0
IsWithin ops more = (op : Op) → Contains ops op → Contains more op

-- each operation of an origin that is in one list is in another
abbrev pub IsWithinOf : ℕ → List Op → List Op → Type 0
IsWithinOf origin ops more = (op : Op) → Contains ops op → op.name.origin ≡ origin
    → Contains more op

-- an operation was made after a past of made operations: its number and its vector name exactly these, and it is valid
-- after them
pub record IsMadeBehind (made past : List Op) (op : Op) : Type 0 where
  pub history : IsHistory past
  pub numbered : AreNumbered [] past
  pub within : IsWithin past made
  pub next : op.name.number ≡ count_in (vector_of past) op.name.origin + 1
  pub seen : op.seen ≡ with_count (vector_of past) op.name.origin 0
  pub valid : IsTrue (is_valid op past)

-- a log has a past and no further operations of an origin
pub record Extends (origin : ℕ) (past log : List Op) : Type 0 where
  pub within : IsWithin past log
  pub own : IsWithinOf origin log past
