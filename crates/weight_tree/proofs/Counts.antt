-- How many items of a list l ++ x ∷ r are below, if the answers rise.
use Rattle.std.proofs.Common.{◌≡◌, ℕ, zero, suc, ◌+◌, ◌<◌, ◌≤◌, ◌⊎◌, inl, inr, Bool, true, false, cond, List, [], ◌∷◌}
use Rattle.std.proofs.Common.{◌++◌, length, get_or, count_by, refl, ◌∙◌, arith, length-append}
use Rattle.std.proofs.Math.ListN.{get_or-append}
use Rattle.std.proofs.lemmas.List.{get_or-append-add}
use Rattle.std.proofs.lemmas.List.Sums.{sum_by-append, sum_by-cons}
use Rattle.std.specs.Ordering.{is_lt, ordering_index}
use Rattle.std.specs.declared.cmp.Ordering.{Ordering}
use Rattle.std.specs.declared.cmp.Ordering.TheVariants.{Less, Equal, Greater}
use Rattle.weight_tree.specs.Rank.{IsRising, count_less}

less_before : (a b : Ordering) → is_lt b ≡ true → ordering_index a ≤ ordering_index b → is_lt a ≡ true
less_before Less b less rising = refl
less_before Equal Less less rising = absurd (omega arith)
less_before Equal Equal less rising = less
less_before Equal Greater less rising = less
less_before Greater Less less rising = absurd (omega arith)
less_before Greater Equal less rising = less
less_before Greater Greater less rising = less

not_less_after : (a b : Ordering) → is_lt a ≡ false → ordering_index a ≤ ordering_index b → is_lt b ≡ false
not_less_after a Equal less rising = refl
not_less_after a Greater less rising = refl
not_less_after Less Less less rising = less
not_less_after Equal Less less rising = absurd (omega arith)
not_less_after Greater Less less rising = absurd (omega arith)

true_or_false : (b : Bool) → (b ≡ true) ⊎ (b ≡ false)
true_or_false true = inl refl
true_or_false false = inr refl

module _ {X : Type 0} where
  all_counted : (p : X → Bool) (xs : List X) → ((i : ℕ) (d : X) → i < length xs → p (get_or xs i d) ≡ true) →
      count_by p xs ≡ length xs
  all_counted p [] h = refl
  all_counted p (x ∷ xs) h =
      let here : p x ≡ true = h 0 x (omega arith) in
      let rest = all_counted p xs (λ i d q. h (suc i) d (omega arith)) in
      let step : count_by p (x ∷ xs) ≡ cond (p x) 1 0 + count_by p xs = sum_by-cons (λ y. cond (p y) 1 0) x xs in
      rw (step, here) (omega (arith, rest))

  none_counted : (p : X → Bool) (xs : List X) → ((i : ℕ) (d : X) → i < length xs → p (get_or xs i d) ≡ false) →
      count_by p xs ≡ 0
  none_counted p [] h = refl
  none_counted p (x ∷ xs) h =
      let here : p x ≡ false = h 0 x (omega arith) in
      let rest = none_counted p xs (λ i d q. h (suc i) d (omega arith)) in
      let step : count_by p (x ∷ xs) ≡ cond (p x) 1 0 + count_by p xs = sum_by-cons (λ y. cond (p y) 1 0) x xs in
      rw (step, here) (omega (arith, rest))

  module _ (order : X → Ordering) (l : List X) (x : X) (r : List X) where
    count_around : count_less order (l ++ x ∷ r) ≡ count_less order l + cond (is_lt (order x)) 1 0 + count_less order r
    count_around =
        omega (
          arith,
          sum_by-append (λ y. cond (is_lt (order y)) 1 0) l (x ∷ r),
          sum_by-cons (λ y. cond (is_lt (order y)) 1 0) x r,
        )

    pub rising_left : IsRising order (l ++ x ∷ r) → IsRising order l
    rising_left rising = λ i j d p q.
        let first : get_or (l ++ x ∷ r) i d ≡ get_or l i d = get_or-append l (x ∷ r) d i (omega arith) in
        let second : get_or (l ++ x ∷ r) j d ≡ get_or l j d = get_or-append l (x ∷ r) d j q in
        rw (first, second) at (rising i j d p (omega (arith, length-append l (x ∷ r))))

    pub rising_right : IsRising order (l ++ x ∷ r) → IsRising order r
    rising_right rising = λ i j d p q.
        let first : get_or (l ++ x ∷ r) (length l + suc i) d ≡ get_or r i d = get_or-append-add l (x ∷ r) (suc i) d in
        let second : get_or (l ++ x ∷ r) (length l + suc j) d ≡ get_or r j d = get_or-append-add l (x ∷ r) (suc j) d in
        rw (first, second) at (rising (length l + suc i) (length l + suc j) d (omega arith)
        (omega (arith, length-append l (x ∷ r))))

    -- if x is below, so is every item before it
    pub count_past : IsRising order (l ++ x ∷ r) → is_lt (order x) ≡ true → count_less order (l ++ x ∷ r) ≡ length l + 1
        + count_less order r
    count_past rising less =
        let left : count_less order l ≡ length l =
        all_counted (λ y. is_lt (order y)) l (λ i d q.
        let first : get_or (l ++ x ∷ r) i d ≡ get_or l i d = get_or-append l (x ∷ r) d i q in
        let second : get_or (l ++ x ∷ r) (length l + 0) d ≡ x = get_or-append-add l (x ∷ r) 0 d in
        less_before _ _ less (rw (first, second) at (rising i (length l + 0) d (omega arith)
        (omega (arith, length-append l (x ∷ r)))))) in
        count_around ∙ rw (left, less) refl

    -- if x is not below, no item after it is
    pub count_up_to : IsRising order (l ++ x ∷ r) → is_lt (order x) ≡ false → count_less order (l ++ x ∷ r)
        ≡ count_less order l
    count_up_to rising not_less =
        let right : count_less order r ≡ 0 =
        none_counted (λ y. is_lt (order y)) r (λ i d q.
        let first : get_or (l ++ x ∷ r) (length l + 0) d ≡ x = get_or-append-add l (x ∷ r) 0 d in
        let second : get_or (l ++ x ∷ r) (length l + suc i) d ≡ get_or r i d = get_or-append-add l (x ∷ r) (suc i) d in
        not_less_after _ _ not_less (rw (first, second) at (rising (length l + 0) (length l + suc i) d (omega arith)
        (omega (arith, length-append l (x ∷ r)))))) in
        count_around ∙ rw (right, not_less) (omega arith)

  module _ (order : X → Ordering) where
    -- if the answers rise, the items before the count are below
    pub less_below : (xs : List X) → IsRising order xs → (k : ℕ) (d : X) → k < count_less order xs → k < length xs →
        is_lt (order (get_or xs k d)) ≡ true
    less_below [] rising k d below within = absurd (omega arith)
    less_below (x ∷ xs) rising zero d below within =
        elim (true_or_false (is_lt (order x))) [
          | inl less ↦ less
          | inr not_less ↦ absurd
              (omega (arith, count_up_to order [] x xs rising not_less))
        ]
    less_below (x ∷ xs) rising (suc k) d below within =
        elim (true_or_false (is_lt (order x))) [
          | inl less ↦ less_below xs (rising_right order [] x xs rising) k d
              (omega (arith, count_past order [] x xs rising less)) (omega arith)
          | inr not_less ↦ absurd (omega (arith, count_up_to order [] x xs rising not_less))
        ]

    -- and those from the count on are not
    pub not_less_from : (xs : List X) → IsRising order xs → (k : ℕ) (d : X) → count_less order xs ≤ k → k < length xs →
        is_lt (order (get_or xs k d)) ≡ false
    not_less_from [] rising k d from within = absurd (omega arith)
    not_less_from (x ∷ xs) rising zero d from within =
        elim (true_or_false (is_lt (order x))) [
          | inl less ↦ absurd (omega (arith, count_past order [] x xs rising less))
          | inr not_less ↦ not_less
        ]
    not_less_from (x ∷ xs) rising (suc k) d from within =
        elim (true_or_false (is_lt (order x))) [
          | inl less ↦ not_less_from xs (rising_right order [] x xs rising) k d
              (omega (arith, count_past order [] x xs rising less)) (omega arith)
          | inr not_less ↦ not_less_after (order x) (order (get_or xs k d)) not_less
              (rising 0 (suc k) d (omega arith) within)
        ]
