-- Consequences of the clauses of this crate, for its callers.
use Rattle.std.proofs.Common.{◌≡◌, ℕ, zero, suc, ◌+◌, ◌<◌, ◌≤◌, true, false, List, [], ◌∷◌, length, take, sum_by}
use Rattle.std.proofs.Common.{slice_get, slice_set, Some, IsSomeAnd, Bor, subst, inl, inr, arith}
use Rattle.std.proofs.Math.ListN.{set}
use Rattle.std.proofs.lemmas.Bool.{cases_order}
use Rattle.std.proofs.lemmas.Fn.{always_returns_same}
use Rattle.std.proofs.lemmas.List.Sums.{sum_by-cons, count_by-le-length}
use Rattle.std.specs.Fn.{Called}
use Rattle.std.specs.List.Sorted.{IsPartitionPoint}
use Rattle.std.specs.Ordering.{is_lt}
use Rattle.std.specs.declared.cmp.Ordering.{Ordering}
use denote.Param.Members.{Mut}
use Rattle.weight_tree.specs.Find.{FallsIn}
use Rattle.weight_tree.specs.Rank.{IsRising, IsRankBy, count_less}
use Rattle.weight_tree.proofs.Counts.{less_below, not_less_from}
use Rattle.weight_tree.proofs.Falls.{within_range}

module _ {X : Type 0} (f : X → ℕ) where
  -- the sum of a list after `replace`, for its `requires`
  pub sum_replaced : (xs : List X) (i : ℕ) (x y : X) → slice_get xs i ≡ Some x → sum_by f (slice_set xs i y) + f x
      ≡ sum_by f xs + f y
  sum_replaced [] i x y e = absurd (cc)
  sum_replaced (z ∷ zs) zero x y e =
      let same : z ≡ x = cc in
      rw (sum_by-cons f y zs, sum_by-cons f z zs, same) (omega arith)
  sum_replaced (z ∷ zs) (suc i) x y e =
      let rest = sum_replaced zs i x y e in
      rw (sum_by-cons f z (set zs i y), sum_by-cons f z zs) (omega (arith, rest))

  pub sum_replaced_le : (xs : List X) (i : ℕ) (y : X) → sum_by f (slice_set xs i y) ≤ sum_by f xs + f y
  sum_replaced_le [] i y = omega arith
  sum_replaced_le (z ∷ zs) zero y = rw (sum_by-cons f y zs, sum_by-cons f z zs) (omega arith)
  sum_replaced_le (z ∷ zs) (suc i) y =
      let rest = sum_replaced_le zs i y in
      rw (sum_by-cons f z (set zs i y), sum_by-cons f z zs) (omega (arith, rest))

module _ {X : Type 0} (weight_of : X → ℕ) where
  -- the item that a number falls in is one of the list
  pub falls_within : (xs : List X) (number rank offset : ℕ) → FallsIn weight_of xs number rank offset → rank < length xs
  falls_within xs number rank offset f = within_range (λ item. offset < weight_of item) xs rank f.within

  -- and weighs more than the offset
  pub falls_inside : (xs : List X) (number rank offset : ℕ) (x : X) → FallsIn weight_of xs number rank offset →
      slice_get xs rank ≡ Some x → offset < weight_of x
  falls_inside xs number rank offset x f is = subst (λ o. IsSomeAnd o (λ item. offset < weight_of item)) is f.within

  ends_past : (xs : List X) (rank offset : ℕ) → IsSomeAnd (slice_get xs rank) (λ item. offset < weight_of item) →
      sum_by weight_of (take rank xs) + offset < sum_by weight_of (take (suc rank) xs)
  ends_past [] rank offset w = absurd w
  ends_past (x ∷ xs) zero offset w = rw (sum_by-cons weight_of x []) (omega arith)
  ends_past (x ∷ xs) (suc k) offset w =
      let rest = ends_past xs k offset w in
      rw (sum_by-cons weight_of x (take k xs), sum_by-cons weight_of x (take (suc k) xs)) (omega arith)

  sum_take_le : (xs : List X) (i j : ℕ) → i ≤ j → sum_by weight_of (take i xs) ≤ sum_by weight_of (take j xs)
  sum_take_le xs zero j h = omega arith
  sum_take_le xs (suc i) zero h = absurd (omega arith)
  sum_take_le [] (suc i) (suc j) h = omega arith
  sum_take_le (x ∷ xs) (suc i) (suc j) h =
      let rest = sum_take_le xs i j (omega arith) in
      rw (sum_by-cons weight_of x (take i xs), sum_by-cons weight_of x (take j xs)) (omega arith)

  not_later : (xs : List X) (number r o s p : ℕ) → FallsIn weight_of xs number r o → FallsIn weight_of xs number s p →
      r < s → ⊥
  not_later xs number r o s p f g h =
      let ends = ends_past xs r o f.within in
      let reaches = sum_take_le xs (suc r) s h in
      omega (arith, f.before, g.before)

  -- a number falls in only one item, at one offset
  pub falls_once : (xs : List X) (number r o s p : ℕ) → FallsIn weight_of xs number r o →
      FallsIn weight_of xs number s p → (r ≡ s) × (o ≡ p)
  falls_once xs number r o s p f g =
      elim (cases_order r s) [
        | inl same ↦
            let before : sum_by weight_of (take s xs) + o ≡ number =
            subst (λ k. sum_by weight_of (take k xs) + o ≡ number) same f.before in
            (same, omega (arith, g.before))
        | inr (inl less) ↦ absurd (not_later xs number r o s p f g less)
        | inr (inr more) ↦ absurd (not_later xs number s p r o g f more)
      ]

-- from the clause `rank` of `rank_by`, where each call gives the order of the item
pub rank_from_clause : {X F : Type 0} {g : Mut F (Bor X × Unit {0}) Ordering} {f : F} (order : X → Ordering)
    (xs : List X) (i : ℕ)
    → IsRankBy g f xs i → IsRising order xs
    → ((a : Bor X × Unit {0}) (r : Ordering) (f' : F) → Called g f a r f' → (r ≡ order a.0.now) × (f' ≡ f)) →
    i ≡ count_less order xs
rank_from_clause {g = g} {f = f} order xs i clause rising same =
    clause order (always_returns_same g (λ a r. r ≡ order a.0.now) f same) rising
