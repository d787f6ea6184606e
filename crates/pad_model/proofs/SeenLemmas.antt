-- Version vectors: the counts after a change, and what a search among their pairs finds.
use Rattle.std.proofs.Common.{◌≡◌, ◌≢◌, ℕ, zero, suc, ◌≤◌, ◌<◌, ◌⊎◌, inl, inr, List, [], ◌∷◌, length, get_or, set}
use Rattle.std.proofs.Common.{Result, Ok, Err, IfOk, IfErr, refl, sym, ap, ◌∙◌, subst, arith}
use Rattle.std.specs.List.{AllByRecursion, insert, remove}
use Rattle.std.specs.List.Sorted.{IsSearchInRange, IsBinarySearchResult, IsNonDecreasingBy}
use Rattle.std.specs.Bool.{Decides}
use Rattle.std.specs.Cmp.Lexicographic.{pointwise}
use Rattle.std.specs.Ordering.{nat_cmp, ordering_index}
use Rattle.std.proofs.lemmas.Bool.{eqb-true, and_parts, and_from, cond-true, cond-false, eq-eqb, ne_eqb, lt-ltb, le-ltb}
use Rattle.std.proofs.lemmas.Bool.{cases_eq, cases_order}
use Rattle.std.proofs.lemmas.Bool.Decides.{nat_tests}
use Rattle.std.proofs.lemmas.Cmp.{ranked}
use Rattle.std.proofs.lemmas.Slice.Eq.{slice_eq-Decides}
use Rattle.std.proofs.lemmas.List.Sorted.{IsNonDecreasingBy-from_default}
use Rattle.pad_model.specs.declared.seen.Counted.{Counted}
use Rattle.pad_model.specs.Seen.{IsVector, count_in, with_first, with_count, same_counted, origin_at, IsAt, IsGapFor}
use Rattle.pad_model.proofs.Each.{each-imply}

-- all origins of these pairs are above
abbrev IsAbove : ℕ → List Counted → Type 0
IsAbove origin pairs = AllByRecursion (λ later. origin < later.origin) pairs

above_lower : (a b : ℕ) (v : List Counted) → a ≤ b → IsAbove b v → IsAbove a v
above_lower a b v le h = each-imply (λ later. b < later.origin) (λ later. a < later.origin) (λ x lt. omega arith) v h

-- the pair of the origin is the first, or it is none of them
count_here : (p : Counted) (v : List Counted) (o : ℕ) → p.origin ≡ o → count_in (p ∷ v) o ≡ p.count
count_here p v o e = cond-true _ _ _ (eq-eqb _ _ e)

count_later : (p : Counted) (v : List Counted) (o : ℕ) → (p.origin ≡ o → ⊥) → count_in (p ∷ v) o ≡ count_in v o
count_later p v o ne = cond-false _ _ _ (ne_eqb _ _ ne)

-- an origin below all others has no count
count_below : (v : List Counted) (o : ℕ) → IsAbove o v → count_in v o ≡ 0
count_below [] o h = refl
count_below (p ∷ v) o h = count_later p v o (λ e. omega (arith, h.0)) ∙ count_below v o h.1

-- `with_count` at a pair below the origin, at the origin's own, and at a later one
with_later : (p : Counted) (v : List Counted) (o n : ℕ) → p.origin < o → with_count (p ∷ v) o n ≡ p ∷ with_count v o n
with_later p v o n lt = cond-true _ _ _ (lt-ltb _ _ lt)

with_here : (p : Counted) (v : List Counted) (o n : ℕ) → p.origin ≡ o → with_count (p ∷ v) o n ≡ with_first o n v
with_here p v o n e = cond-false _ _ _ (le-ltb p.origin o (omega arith)) ∙ ap (with_first o n)
    (cond-true _ _ _ (eq-eqb p.origin o e))

with_before : (p : Counted) (v : List Counted) (o n : ℕ) → o < p.origin → with_count (p ∷ v) o n
    ≡ with_first o n (p ∷ v)
with_before p v o n lt = cond-false _ _ _ (le-ltb p.origin o (omega arith)) ∙ ap (with_first o n)
    (cond-false _ _ _ (ne_eqb p.origin o (λ e. omega arith)))

first_some : (o n : ℕ) (v : List Counted) → 1 ≤ n → with_first o n v ≡ record { origin = o; count = n } ∷ v
first_some o n v le = cond-false _ _ _ (ne_eqb n 0 (λ e. omega arith))

-- the count before pairs of later origins
count_first : (o n : ℕ) (v : List Counted) → IsAbove o v → count_in (with_first o n v) o ≡ n
count_first o zero v h = count_below v o h
count_first o (suc n) v h = ap (λ pairs. count_in pairs o) (first_some o (suc n) v (omega arith))
    ∙ count_here (record { origin = o; count = suc n }) v o refl

count_first_other : (o n : ℕ) (v : List Counted) (q : ℕ) → q ≢ o → count_in (with_first o n v) q ≡ count_in v q
count_first_other o zero v q ne = refl
count_first_other o (suc n) v q ne = ap (λ pairs. count_in pairs q) (first_some o (suc n) v (omega arith))
    ∙ count_later (record { origin = o; count = suc n }) v q (λ e. ne (sym e))

-- the count that was set is read again
pub count_in-with_count : (v : List Counted) → IsVector v → (o n : ℕ) → count_in (with_count v o n) o ≡ n
count_in-with_count [] h o n = count_first o n [] tt
count_in-with_count (p ∷ v) h o n = elim (cases_order p.origin o) [
  | inl same ↦ ap (λ pairs. count_in pairs o) (with_here p v o n same)
      ∙ count_first o n v (subst (λ a. IsAbove a v) same h.1)
  | inr order ↦ elim order [
    | inl below ↦ ap (λ pairs. count_in pairs o) (with_later p v o n below) ∙ count_later p (with_count v o n) o
        (λ e. omega arith) ∙ count_in-with_count v h.2 o n
    | inr above ↦ ap (λ pairs. count_in pairs o) (with_before p v o n above) ∙ count_first o n (p ∷ v)
        (above, above_lower o p.origin v (omega arith) h.1)
  ]
]

-- each other count is as it was
pub count_in-with_other : (v : List Counted) (o n q : ℕ) → q ≢ o → count_in (with_count v o n) q ≡ count_in v q
count_in-with_other [] o n q ne = count_first_other o n [] q ne
count_in-with_other (p ∷ v) o n q ne = elim (cases_order p.origin o) [
  | inl same ↦ ap (λ pairs. count_in pairs q) (with_here p v o n same) ∙ count_first_other o n v q ne
      ∙ sym (count_later p v q (λ e. ne (sym e ∙ same)))
  | inr order ↦ elim order [
    | inl below ↦ ap (λ pairs. count_in pairs q) (with_later p v o n below) ∙ later (cases_eq p.origin q)
        (count_in-with_other v o n q ne)
    | inr above ↦ ap (λ pairs. count_in pairs q) (with_before p v o n above) ∙ count_first_other o n (p ∷ v) q ne
  ]
]
  where
    later : (p.origin ≡ q) ⊎ (p.origin ≡ q → ⊥) → count_in (with_count v o n) q ≡ count_in v q →
        count_in (p ∷ with_count v o n) q ≡ count_in (p ∷ v) q
    later (inl e) same = count_here p _ q e ∙ sym (count_here p v q e)
    later (inr e) same = count_later p _ q e ∙ same ∙ sym (count_later p v q e)

above_first : (a o n : ℕ) (v : List Counted) → a < o → IsAbove a v → IsAbove a (with_first o n v)
above_first a o zero v lt h = h
above_first a o (suc n) v lt h = subst (IsAbove a) (sym (first_some o (suc n) v (omega arith))) (lt, h)

above_with : (a : ℕ) (v : List Counted) (o n : ℕ) → a < o → IsAbove a v → IsAbove a (with_count v o n)
above_with a [] o n lt h = above_first a o n [] lt tt
above_with a (p ∷ v) o n lt h = elim (cases_order p.origin o) [
  | inl same ↦ subst (IsAbove a) (sym (with_here p v o n same)) (above_first a o n v lt h.1)
  | inr order ↦ elim order [
    | inl below ↦ subst (IsAbove a) (sym (with_later p v o n below)) (h.0, above_with a v o n lt h.1)
    | inr above ↦ subst (IsAbove a) (sym (with_before p v o n above)) (above_first a o n (p ∷ v) lt h)
  ]
]

IsVector-first : (o n : ℕ) (v : List Counted) → IsAbove o v → IsVector v → IsVector (with_first o n v)
IsVector-first o zero v above h = h
IsVector-first o (suc n) v above h = subst IsVector (sym (first_some o (suc n) v (omega arith))) (omega arith, above, h)

-- the counts stay above 0, and the origins still rise
pub IsVector-with_count : (v : List Counted) (o n : ℕ) → IsVector v → IsVector (with_count v o n)
IsVector-with_count [] o n h = IsVector-first o n [] tt tt
IsVector-with_count (p ∷ v) o n h = elim (cases_order p.origin o) [
  | inl same ↦ subst IsVector (sym (with_here p v o n same))
      (IsVector-first o n v (subst (λ a. IsAbove a v) same h.1) h.2)
  | inr order ↦ elim order [
    | inl below ↦ subst IsVector (sym (with_later p v o n below)) (
      h.0,
      above_with p.origin v o n below h.1,
      IsVector-with_count v o n h.2,
    )
    | inr above ↦ subst IsVector (sym (with_before p v o n above))
        (IsVector-first o n (p ∷ v) (above, above_lower o p.origin v (omega arith) h.1) h)
  ]
]

counted_same : (p q : Counted) → p.origin ≡ q.origin → p.count ≡ q.count → p ≡ q
counted_same p q e f =
    let parts : record { origin = p.origin; count = p.count } ≡ record { origin = q.origin; count = q.count } =
    rw (e, f) refl in parts

-- two vectors that agree at each origin are one
pub vectors_same : (v w : List Counted) → IsVector v → IsVector w → ((o : ℕ) → count_in v o ≡ count_in w o) → v ≡ w
vectors_same [] [] h k same = refl
vectors_same [] (q ∷ w) h k same = absurd (omega (arith, k.0, same q.origin, count_here q w q.origin refl))
vectors_same (p ∷ v) [] h k same = absurd (omega (arith, h.0, same p.origin, count_here p v p.origin refl))
vectors_same (p ∷ v) (q ∷ w) h k same = elim (cases_order p.origin q.origin) [
  | inl e ↦
      let one : p ≡ q = counted_same p q e (sym (count_here p v p.origin refl) ∙ same p.origin
      ∙ count_here q w p.origin (sym e)) in
      let rest : v ≡ w = vectors_same v w h.2 k.2 (λ o. tails o e (cases_eq p.origin o)) in
      ap (λ x. x ∷ v) one ∙ ap (λ xs. q ∷ xs) rest
  | inr order ↦ elim order [
    | inl below ↦ absurd (omega (
      arith,
      h.0,
      same p.origin,
      count_here p v p.origin refl,
      count_below (q ∷ w) p.origin (below, above_lower p.origin q.origin w (omega arith) k.1),
    ))
    | inr above ↦ absurd (omega (
      arith,
      k.0,
      same q.origin,
      count_here q w q.origin refl,
      count_below (p ∷ v) q.origin (above, above_lower q.origin p.origin v (omega arith) h.1),
    ))
  ]
]
  where
    tails : (o : ℕ) → p.origin ≡ q.origin → (p.origin ≡ o) ⊎ (p.origin ≡ o → ⊥) → count_in v o ≡ count_in w o
    tails o e (inl here) = count_below v o (subst (λ a. IsAbove a v) here h.1)
        ∙ sym (count_below w o (subst (λ a. IsAbove a w) (sym e ∙ here) k.1))
    tails o e (inr other) = sym (count_later p v o other) ∙ same o ∙ count_later q w o (λ f. other (e ∙ f))

-- a pair after the first has a greater origin
origin_above : (a : ℕ) (v : List Counted) (k : ℕ) → IsAbove a v → k < length v → a < origin_at v k
origin_above a [] k h lt = absurd (omega arith)
origin_above a (p ∷ v) zero h lt = h.0
origin_above a (p ∷ v) (suc k) h lt = origin_above a v k h.1 (omega arith)

origins_rise : (v : List Counted) → IsVector v → (i j : ℕ) → i < j → j < length v → origin_at v i < origin_at v j
origins_rise [] h i j lt le = absurd (omega arith)
origins_rise (p ∷ v) h i zero lt le = absurd (omega arith)
origins_rise (p ∷ v) h zero (suc j) lt le = origin_above p.origin v j h.1 (omega arith)
origins_rise (p ∷ v) h (suc i) (suc j) lt le = origins_rise v h.2 i j (omega arith) (omega arith)

-- the comparisons with an origin rise along the vector, as a binary search asks
comparisons_rise : (v : List Counted) → IsVector v → (o : ℕ) →
    IsNonDecreasingBy (λ pair. ordering_index (nat_cmp pair.origin o)) v
comparisons_rise v h o =
    IsNonDecreasingBy-from_default (λ pair. ordering_index (nat_cmp pair.origin o)) v (record { origin = 0; count = 0 })
    (λ i j le in_range.
    let rise : origin_at v i ≤ origin_at v j =
    grind (arith, origins_rise v h i j, λ (same : i ≡ j). ap (origin_at v) same) in
    grind (arith, nat_tests))

-- a binary search by origin ends at the origin's pair, or at the gap for it
pub found_at : (v : List Counted) → IsVector v → (o : ℕ) (r : Result ℕ ℕ) → IsSearchInRange r (length v) →
    IsBinarySearchResult (λ pair. nat_cmp pair.origin o) v r → IfOk r (IsAt v o)
found_at v h o (Ok at) in_range equal = record
    { in_range = in_range; has_origin = ranked _ o _ (sym (equal (record { origin = 0; count = 0 }))) }
found_at v h o (Err at) in_range parted = tt

pub gap_at : (v : List Counted) → IsVector v → (o : ℕ) (r : Result ℕ ℕ) → IsSearchInRange r (length v) →
    IsBinarySearchResult (λ pair. nat_cmp pair.origin o) v r → IfErr r (IsGapFor v o)
gap_at v h o (Ok at) in_range equal = tt
gap_at v h o (Err at) in_range parted =
    let sides = parted (comparisons_rise v h o) in
    let first : Counted = record { origin = 0; count = 0 } in
    record {
      in_range = in_range;
      smaller_before = λ j lt. ranked _ o _ (sym (sides.0 j first (omega arith) lt));
      greater_after = λ j le lt. ranked _ o _ (sym (sides.1 j first le lt));
    }

-- at its place a pair is read, replaced or removed
pub count_at : (v : List Counted) → IsVector v → (o i : ℕ) → IsAt v o i → (d : Counted) → count_in v o
    ≡ (get_or v i d).count
count_at [] h o i at d = absurd (omega (arith, at.in_range))
count_at (p ∷ v) h o zero at d = count_here p v o at.has_origin
count_at (p ∷ v) h o (suc i) at d =
    let inner : IsAt v o i = record { in_range = omega (arith, at.in_range); has_origin = at.has_origin } in
    count_later p v o (λ e. omega (arith, at.has_origin, origin_above p.origin v i h.1 inner.in_range))
    ∙ count_at v h.2 o i inner d

pub set_at : (v : List Counted) → IsVector v → (o i n : ℕ) → IsAt v o i → 1 ≤ n →
    set v i (record { origin = o; count = n }) ≡ with_count v o n
set_at [] h o i n at le = absurd (omega (arith, at.in_range))
set_at (p ∷ v) h o zero n at le = sym (with_here p v o n at.has_origin ∙ first_some o n v le)
set_at (p ∷ v) h o (suc i) n at le =
    let inner : IsAt v o i = record { in_range = omega (arith, at.in_range); has_origin = at.has_origin } in
    ap (λ xs. p ∷ xs) (set_at v h.2 o i n inner le)
    ∙ sym (with_later p v o n (omega (arith, at.has_origin, origin_above p.origin v i h.1 inner.in_range)))

pub remove_at : (v : List Counted) → IsVector v → (o i : ℕ) → IsAt v o i → remove v i ≡ with_count v o 0
remove_at [] h o i at = absurd (omega (arith, at.in_range))
remove_at (p ∷ v) h o zero at = sym (with_here p v o 0 at.has_origin)
remove_at (p ∷ v) h o (suc i) at =
    let inner : IsAt v o i = record { in_range = omega (arith, at.in_range); has_origin = at.has_origin } in
    ap (λ xs. p ∷ xs) (remove_at v h.2 o i inner)
    ∙ sym (with_later p v o 0 (omega (arith, at.has_origin, origin_above p.origin v i h.1 inner.in_range)))

-- an origin that has a gap has no count, and its pair goes there
gap_tail : (p : Counted) (v : List Counted) (o i : ℕ) → IsGapFor (p ∷ v) o (suc i) → IsGapFor v o i
gap_tail p v o i gap = record {
  in_range = omega (arith, gap.in_range);
  smaller_before = λ k lt. gap.smaller_before (suc k) (omega arith);
  greater_after = λ k le lt. gap.greater_after (suc k) (omega arith) (omega arith);
}

pub gap_count : (v : List Counted) (o i : ℕ) → IsGapFor v o i → count_in v o ≡ 0
gap_count [] o i gap = refl
gap_count (p ∷ v) o zero gap = count_later p v o (λ e. omega (arith, gap.greater_after 0 (omega arith) (omega arith)))
    ∙ gap_count v o zero (record {
      in_range = omega arith;
      smaller_before = λ k lt. absurd (omega arith);
      greater_after = λ k le lt. gap.greater_after (suc k) (omega arith) (omega arith);
    })
gap_count (p ∷ v) o (suc i) gap = count_later p v o (λ e. omega (arith, gap.smaller_before 0 (omega arith)))
    ∙ gap_count v o i (gap_tail p v o i gap)

pub insert_at : (v : List Counted) (o i n : ℕ) → IsGapFor v o i → 1 ≤ n → insert v i (record { origin = o; count = n })
    ≡ with_count v o n
insert_at [] o zero n gap le = sym (first_some o n [] le)
insert_at [] o (suc i) n gap le = absurd (omega (arith, gap.in_range))
insert_at (p ∷ v) o zero n gap le = sym (with_before p v o n (gap.greater_after 0 (omega arith) (omega arith))
    ∙ first_some o n (p ∷ v) le)
insert_at (p ∷ v) o (suc i) n gap le = ap (λ xs. p ∷ xs) (insert_at v o i n (gap_tail p v o i gap) le)
    ∙ sym (with_later p v o n (gap.smaller_before 0 (omega arith)))

pub none_at : (v : List Counted) (o i : ℕ) → IsGapFor v o i → with_count v o 0 ≡ v
none_at [] o i gap = refl
none_at (p ∷ v) o zero gap = with_before p v o 0 (gap.greater_after 0 (omega arith) (omega arith))
none_at (p ∷ v) o (suc i) gap = with_later p v o 0 (gap.smaller_before 0 (omega arith)) ∙ ap (λ xs. p ∷ xs)
    (none_at v o i (gap_tail p v o i gap))

counted_decides : (a b : Counted) → Decides (same_counted a b) (a ≡ b)
counted_decides a b = (
  (λ e. let parts = and_parts _ _ e in counted_same a b (eqb-true _ _ parts.0) (eqb-true _ _ parts.1)),
  (λ e. and_from _ _ (eq-eqb a.origin b.origin (ap (λ pair. pair.origin) e))
      (eq-eqb a.count b.count (ap (λ pair. pair.count) e))),
)

-- what `==` says of two vectors is whether they are equal
pub seen_decides : (v w : List Counted) → Decides (pointwise same_counted v w) (v ≡ w)
seen_decides v w = slice_eq-Decides counted_decides v w (pointwise same_counted v w) refl
