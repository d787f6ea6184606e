-- The view of a tree's root, and its invariant.
use Rattle.std.specs.Prelude.{◌≡◌, ℕ, ◌+◌, ◌^◌, ◌<◌, max, List, [], ◌∷◌, ◌++◌, length, sum_by, Option, Some, None, Box}
use Rattle.std.specs.declared.alloc.Global.{Global}
use Rattle.weight_tree.specs.Balance.{IsBalanced, IsLow}
use Rattle.weight_tree.specs.ItemsAndHeight.{ItemsAndHeight}
use Rattle.weight_tree.specs.declared.tree.Branch.{Branch}

-- the items of the left side, the branch's own and those of the right side
abbrev pub branch_items : {T : Type 0} → Branch T → List T
branch_items b = b.left.items ++ b.item ∷ b.right.items

-- the items below a root in order, and the height that it stores
abbrev pub items_and_height : {T : Type 0} → Option (Box (Branch T) Global) → ItemsAndHeight T
items_and_height None = record { items = []; height = 0 }
items_and_height (Some b) = record { items = branch_items b.value; height = b.value.height }

-- the stored sums and heights are right, the sides are balanced, and the branch and its sides are low
pub record IsMended {T : Type 0} (weight_of : T → ℕ) (b : Branch T) : Type 0 where
  pub left_size : b.left_size ≡ length b.left.items
  pub left_weight : b.left_weight ≡ sum_by weight_of b.left.items
  pub left_height : b.left_height ≡ b.left.height
  pub right_height : b.right_height ≡ b.right.height
  pub size : b.size ≡ length b.left.items + length b.right.items + 1
  pub size_fits : b.size < 2 ^ 64
  pub weight : b.weight ≡ sum_by weight_of b.left.items + weight_of b.item
      + sum_by weight_of b.right.items
  pub weight_fits : b.weight < 2 ^ 64
  pub height : b.height ≡ max b.left.height b.right.height + 1
  pub height_fits : b.height < 2 ^ 8
  pub balanced : IsBalanced (length b.left.items) (length b.right.items)
  pub low : IsLow b.height (length (branch_items b))
  pub left_low : IsLow b.left.height (length b.left.items)
  pub right_low : IsLow b.right.height (length b.right.items)

-- the root's branch, if there is one, is mended
abbrev pub IsWeightTree : {T : Type 0} → (T → ℕ) → Option (Box (Branch T) Global) → Type 0
IsWeightTree weight_of None = Unit {0}
IsWeightTree weight_of (Some b) = IsMended weight_of b.value

-- the number and the weight of the items of two sides and one between them fit 64 bits
pub record FitTogether {T : Type 0} (weight_of : T → ℕ) (left : ItemsAndHeight T) (middle : T)
    (right : ItemsAndHeight T) : Type 0 where
  pub size : length left.items + length right.items + 1 < 2 ^ 64
  pub weight : sum_by weight_of left.items + weight_of middle + sum_by weight_of right.items
      < 2 ^ 64
