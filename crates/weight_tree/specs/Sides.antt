-- What a branch stores of one side while the other changes.
use Rattle.std.specs.Prelude.{◌≡◌, ℕ, ◌+◌, length, sum_by}
use Rattle.weight_tree.specs.Balance.{IsLow}
use Rattle.weight_tree.specs.declared.tree.Branch.{Branch}

-- a branch whose right side may have changed stores the size and weight of its left side
pub record StoresLeft {T : Type 0} (weight_of : T → ℕ) (b : Branch T) : Type 0 where
  pub size : b.left_size ≡ length b.left.items
  pub weight : b.left_weight ≡ sum_by weight_of b.left.items
  pub height : b.left_height ≡ b.left.height
  pub low : IsLow b.left.height (length b.left.items)

-- a branch whose left side may have changed stores totals that agree with its right side
pub record StoresRight {T : Type 0} (weight_of : T → ℕ) (b : Branch T) : Type 0 where
  pub size : b.size ≡ b.left_size + length b.right.items + 1
  pub weight : b.weight ≡ b.left_weight + weight_of b.item + sum_by weight_of b.right.items
  pub height : b.right_height ≡ b.right.height
  pub low : IsLow b.right.height (length b.right.items)
