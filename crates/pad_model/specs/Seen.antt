-- Version vectors: how many operations of each origin are known.
use Rattle.std.specs.Prelude.{ℕ, ◌≤◌, ◌<◌, Bool, ◌&&◌, List, [], ◌∷◌, ◌==◌, nat_lt, length, slice_index_or, ◌≡◌}
use Rattle.std.specs.Prelude.{if◌then◌else◌}
use Rattle.std.specs.Cmp.{IsPartialEquivalence, and_per, on_per, partial_equiv_from_equiv}
use Rattle.std.proofs.lemmas.Cmp.{nat_eq_equiv}
use Rattle.std.specs.List.{AllByRecursion}
use Rattle.pad_model.specs.declared.seen.Counted.{Counted}

-- the count of an origin, or 0 if the vector does not name it
abbrev pub count_in : List Counted → ℕ → ℕ
count_in [] origin = 0
count_in (pair ∷ pairs) origin = if pair.origin == origin then pair.count else count_in pairs origin

-- counts are above 0, and the origins are in ascending order
abbrev pub IsVector : List Counted → Type 0
IsVector [] = Unit {0}
IsVector (pair ∷ pairs) = (1 ≤ pair.count)
    × AllByRecursion (λ later. pair.origin < later.origin) pairs × IsVector pairs

-- the pairs with one more in front, unless its count is 0
abbrev pub with_first : ℕ → ℕ → List Counted → List Counted
with_first origin count pairs = if count == 0 then pairs
    else record { origin = origin; count = count } ∷ pairs

-- the vector with this count of an origin, and every other count unchanged
abbrev pub with_count : List Counted → ℕ → ℕ → List Counted
with_count [] origin count = with_first origin count []
with_count (pair ∷ pairs) origin count =
    if nat_lt pair.origin origin then pair ∷ with_count pairs origin count
    else with_first origin count (if pair.origin == origin then pairs else pair ∷ pairs)

-- whether two pairs are equal
abbrev pub same_counted : Counted → Counted → Bool
same_counted a b = a.origin == b.origin && a.count == b.count

-- the test is symmetric and transitive
pub same_counted_laws : IsPartialEquivalence same_counted
same_counted_laws =
    and_per (on_per (λ pair. pair.origin) (partial_equiv_from_equiv nat_eq_equiv))
    (on_per (λ pair. pair.count) (partial_equiv_from_equiv nat_eq_equiv))

-- the origin of the pair at a place
abbrev pub origin_at : List Counted → ℕ → ℕ
origin_at pairs place = let pair = slice_index_or pairs place (record { origin = 0; count = 0 })
    in pair.origin

-- the pair at a place has this origin
pub record IsAt (pairs : List Counted) (origin place : ℕ) : Type 0 where
  pub in_range : place < length pairs
  pub has_origin : origin_at pairs place ≡ origin

-- an origin would be inserted at a place: those before it are smaller, and those from it on are greater
pub record IsGapFor (pairs : List Counted) (origin place : ℕ) : Type 0 where
  pub in_range : place ≤ length pairs
  pub smaller_before : (k : ℕ) → k < place → origin_at pairs k < origin
  pub greater_after : (k : ℕ) → place ≤ k → k < length pairs → origin < origin_at pairs k
