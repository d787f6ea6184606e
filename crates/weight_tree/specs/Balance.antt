-- When two sides of these sizes may be below one item, and how low that keeps a tree.
use Rattle.std.specs.Prelude.{◌≡◌, ℕ, ◌+◌, ◌*◌, ◌^◌, ◌<◌, ◌≤◌}

-- the size plus one of neither side is more than three times that of the other
abbrev pub IsBalanced : ℕ → ℕ → Type 0
IsBalanced left right = (left + 1 ≤ 3 * (right + 1)) × (right + 1 ≤ 3 * (left + 1))

-- the heavy side has more items than the light one allows, but no more than the light one would allow with one item
-- more
abbrev pub IsTooHeavy : ℕ → ℕ → Type 0
IsTooHeavy heavy light = (3 * (light + 1) < heavy + 1) × (heavy + 1 ≤ 3 * (light + 2))

-- the size plus one of neither side is more than three times that of the other with one item more
abbrev pub IsNearlyBalanced : ℕ → ℕ → Type 0
IsNearlyBalanced left right = (left + 1 ≤ 3 * (right + 2)) × (right + 1 ≤ 3 * (left + 2))

-- a single rotation, which moves the inner part of the heavy side to the light side, leaves each pair of sides balanced
abbrev pub SingleMends : ℕ → ℕ → ℕ → Type 0
SingleMends outer inner light = IsBalanced inner light × IsBalanced outer (inner + light + 1)

-- a double rotation, which lifts the inner part's own item to the top, leaves each pair of sides balanced
abbrev pub DoubleMends : ℕ → ℕ → ℕ → Type 0
DoubleMends outer inner light =
    (0 < inner)
    × ((near far : ℕ) → inner ≡ near + far + 1 → IsBalanced near far
    → IsBalanced outer near × IsBalanced far light
    × IsBalanced (outer + near + 1) (far + light + 1))

-- four to the height is at most three to the height times the size plus one
abbrev pub IsLow : ℕ → ℕ → Type 0
IsLow height size = 4 ^ height ≤ 3 ^ height * (size + 1)
