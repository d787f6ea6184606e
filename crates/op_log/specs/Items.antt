-- Items of bytes, as contracts see them.
use Rattle.std.specs.Prelude.{ℕ, List, Option}

-- the items in their order, and the one that is ready to become the next, if any
pub record Items : Type 0 where
  pub items : List (List ℕ)
  pub ready : Option (List ℕ)
