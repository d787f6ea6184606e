-- How tokens are compared.
use Rattle.std.specs.Prelude.{ℕ, ◌+◌, ◌==◌, if◌then◌else◌, List, ◌∷◌}

-- the number of places at which two texts differ, up to the end of the shorter one
abbrev pub differences : List ℕ → List ℕ → ℕ
differences (x ∷ xs) (y ∷ ys) = (if x == y then 0 else 1) + differences xs ys
differences xs ys = 0
