-- The items that an iterator over a tree has yet to give.
use Rattle.std.specs.Prelude.{ℕ, ◌+◌, ◌<◌, List, [], ◌∷◌, ◌++◌, Option, Some, None, slice_index_or}
use Rattle.std.specs.Borrow.{Bor}
use Rattle.weight_tree.specs.declared.tree.Branch.{Branch}

-- the item of a waiting branch, and those of its right side
abbrev pub from_branch : {T : Type 0} → Option (Bor (Branch T)) → List T
from_branch None = []
from_branch (Some b) = b.now.item ∷ b.now.right.items

-- the items of the waiting branches, those of the last branch first
abbrev pub from_waiting : {T : Type 0} → List (Option (Bor (Branch T))) → List T
from_waiting [] = []
from_waiting (b ∷ later) = from_waiting later ++ from_branch b

-- a branch waits at this place, and the places from here on are enough for its right side
abbrev pub WaitsAt : {T : Type 0} → ℕ → ℕ → Option (Bor (Branch T)) → Type 0
WaitsAt places place None = ⊥
WaitsAt places place (Some b) = place + b.now.right.height < places

-- a branch waits at each place below the depth
abbrev pub IsWaiting : {T : Type 0} → ℕ → ℕ → List (Option (Bor (Branch T))) → Type 0
IsWaiting places depth waiting = (k : ℕ) → k < depth
    → WaitsAt places k (slice_index_or waiting k None)
