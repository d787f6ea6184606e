-- Where two files of one pad part: after the last line whose sum both have.
use Rattle.std.specs.Prelude.{◌≡◌, ◌⊎◌, ◌≤◌, ◌<◌, ◌-◌, ℕ, nat_lt, if◌then◌else◌, Bool, true, false, List, [], length}
use Rattle.std.specs.Prelude.{take, drop, bytes_eq, get_or, Option, Some, None}

-- the sum at the end of a line, which has 64 digits; a line that is too short has none
abbrev pub sum_on : List ℕ → Option (List ℕ)
sum_on line = if nat_lt (length line) 69 then None else Some (take 64 (drop (length line - 66) line))

-- whether two sums are there, and are the same
abbrev pub are_one : Option (List ℕ) → Option (List ℕ) → Bool
are_one (Some sum) (Some other) = bytes_eq sum other
are_one (Some sum) None = false
are_one None other = false

-- whether two lines have the same sum
abbrev pub have_one_sum : List ℕ → List ℕ → Bool
have_one_sum line other = are_one (sum_on line) (sum_on other)

-- whether two files have the same sum in the line after so many lines
abbrev pub is_shared_at : List (List ℕ) → List (List ℕ) → ℕ → Bool
is_shared_at olds news place = have_one_sum (get_or olds place []) (get_or news place [])

-- so many lines end with the last one whose sum both files have: none of the lines after it has the sum of the other
-- file's line in that place, and without such a line there are none
pub record IsLastShared (olds news : List (List ℕ)) (count : ℕ) : Type 0 where
  pub old : count ≤ length olds
  pub new : count ≤ length news
  pub last : (count ≡ 0) ⊎ (is_shared_at olds news (count - 1) ≡ true)
  pub beyond : (place : ℕ) → count ≤ place → place < length olds → place < length news →
      is_shared_at olds news place ≡ false

-- the lines of one of two files up to the last one whose sum both have, and those after it
unfoldable pub Part : List (List ℕ) → List (List ℕ) → List (List ℕ) → List (List ℕ) → Type 0
Part olds news shared beyond = (count : ℕ) × IsLastShared olds news count × (shared ≡ take count olds)
    × (beyond ≡ drop count olds)
