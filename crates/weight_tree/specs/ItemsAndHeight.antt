-- A tree as callers see it.
use Rattle.std.specs.Prelude.{ℕ, List}

-- the items of a tree in order, and its height
pub record ItemsAndHeight (T : Type 0) : Type 0 where
  pub items : List T
  pub height : ℕ
