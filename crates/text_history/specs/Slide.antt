-- A change to the visible text, as the contracts see it.
use Rattle.std.specs.Prelude.{ℕ, Bool}
use Rattle.pad_model.specs.Stamp.{Stamp}

-- a stretch of characters that one revision showed, or else hid, behind so many visible ones
pub record Slide : Type 0 where
  pub rev : ℕ
  pub at : ℕ
  pub first : Stamp
  pub len : ℕ
  pub shows : Bool
