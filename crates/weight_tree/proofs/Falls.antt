-- Where a number falls in a list l ++ x ∷ r, by where it falls in a part.
use Rattle.std.proofs.Common.{◌≡◌, ℕ, zero, suc, ◌+◌, ◌-◌, ◌<◌, ◌≤◌, List, [], ◌∷◌, ◌++◌, length, take, sum_by}
use Rattle.std.proofs.Common.{slice_get, Some, IsSomeAnd, ap, arith}
use Rattle.std.proofs.Math.Nat.{zero-add, suc-add}
use Rattle.std.proofs.Math.Seq.{take-append_seam}
use Rattle.std.proofs.lemmas.List.{take-append-le}
use Rattle.weight_tree.specs.Find.{FallsIn}
use Rattle.weight_tree.proofs.Around.{take_after, sum_around}

module _ {X : Type 0} where
  pub within_range : (P : X → Type 0) (xs : List X) (k : ℕ) → IsSomeAnd (slice_get xs k) P → k < length xs
  within_range P [] k w = absurd w
  within_range P (x ∷ xs) zero w = omega arith
  within_range P (x ∷ xs) (suc k) w = omega (arith, within_range P xs k w)

  within_left : (P : X → Type 0) (xs ys : List X) (k : ℕ) → IsSomeAnd (slice_get xs k) P →
      IsSomeAnd (slice_get (xs ++ ys) k) P
  within_left P [] ys k w = absurd w
  within_left P (x ∷ xs) ys zero w = w
  within_left P (x ∷ xs) ys (suc k) w = within_left P xs ys k w

  slice_get_right : (xs ys : List X) (k : ℕ) → slice_get (xs ++ ys) (length xs + k) ≡ slice_get ys k
  slice_get_right [] ys k = ap (slice_get ys) (zero-add k)
  slice_get_right (x ∷ xs) ys k = rw (suc-add (length xs) k) (slice_get_right xs ys k)

  module _ (weight_of : X → ℕ) where
    -- it falls in the item that it falls in on the left side
    pub falls_left : (l : List X) (x : X) (r : List X) (number rank offset : ℕ) →
        FallsIn weight_of l number rank offset → FallsIn weight_of (l ++ x ∷ r) number rank offset
    falls_left l x r number rank offset f =
        let inside = within_range (λ item. offset < weight_of item) l rank f.within in
        let same : take rank (l ++ x ∷ r) ≡ take rank l = take-append-le rank l (x ∷ r) (omega arith) in
        record { before = rw same f.before; within = within_left _ l (x ∷ r) rank f.within }

    -- it falls in the middle item
    pub falls_here : (l : List X) (x : X) (r : List X) (number rank offset : ℕ) → rank ≡ length l → sum_by weight_of l
        + offset ≡ number → offset < weight_of x → FallsIn weight_of (l ++ x ∷ r) number rank offset
    falls_here l x r number rank offset e before inside =
        let here : slice_get (l ++ x ∷ r) (length l + 0) ≡ Some x = slice_get_right l (x ∷ r) 0 in
        let place : rank ≡ length l + 0 = omega arith in
        record {
          before = rw (e, take-append_seam l (x ∷ r)) before;
          within = rw (place, here) inside;
        }

    -- it falls in the item that the rest falls in on the right side
    pub falls_right : (l : List X) (x : X) (r : List X) (number rank offset : ℕ) (k : ℕ) → rank ≡ length l + 1 + k →
        sum_by weight_of l + weight_of x ≤ number
        → FallsIn weight_of r (number - sum_by weight_of l - weight_of x) k offset →
        FallsIn weight_of (l ++ x ∷ r) number rank offset
    falls_right l x r number rank offset k e past f =
        let place : rank ≡ length l + suc k = omega arith in
        let there : slice_get (l ++ x ∷ r) (length l + suc k) ≡ slice_get r k = slice_get_right l (x ∷ r) (suc k) in
        let sums = sum_around weight_of l x (take k r) in
        record {
          before = rw (take_after l x r rank k place, sums) (omega (arith, f.before));
          within = rw (place, there) f.within;
        }
