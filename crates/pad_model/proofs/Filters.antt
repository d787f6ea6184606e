-- The order of the items that pass a test is the part of the order that passes it.
use Rattle.std.proofs.Common.{◌≡◌, ◌<◌, ◌⊎◌, inl, inr, Bool, true, false, List, [], ◌∷◌, Option, Some, None, refl, sym}
use Rattle.std.proofs.Common.{ap, ◌∙◌, subst, append-nil, filter}
use Rattle.std.proofs.lemmas.Bool.{both_ways}
use Rattle.std.proofs.lemmas.List.Elements.{filter-append}
use Rattle.std.proofs.lemmas.List.Sorted.{IsPermutation-sym}
use Rattle.std.specs.List.{AllByRecursion, IsDistinct}
use Rattle.pad_model.specs.Stamp.{Stamp, newer, same_stamp}
use Rattle.pad_model.specs.Character.{Character}
use Rattle.pad_model.specs.Legal.{has_stamp, has_parent, same_item, counter_of, IsTree}
use Rattle.pad_model.specs.Order.{same_parent, rising, walk_rising, order}
use Rattle.pad_model.specs.Subsequence.{IsSubsequence, done, keep, skip}
use Rattle.pad_model.proofs.Newer.{split, same_stamp-true}
use Rattle.pad_model.proofs.Rising.{IsRising, IsRising-rising, rising-permutation, IsDistinct-nil, IsDistinct-parts}
use Rattle.pad_model.proofs.Rising.{IsDistinct-from_parts}
use Rattle.pad_model.proofs.Members.{same_parent-true}
use Rattle.pad_model.proofs.Scan.{walk_none}
use Rattle.pad_model.proofs.Sets.{Has, Has-permutation, Has-each, each_Has, rising_unique, same_of_stamp, has_stamp_of}
use Rattle.pad_model.proofs.Sets.{item_of_stamp, set_law}

pub each-filter : {A : Type 0} (P : A → Type 0) (t : A → Bool) (xs : List A) → AllByRecursion P xs →
    AllByRecursion P (filter t xs)
each-filter P t [] h = tt
each-filter P t (x ∷ xs) h = split (t x) (λ e. rw e (h.0, each-filter P t xs h.1)) (λ e. rw e (each-filter P t xs h.1))

pub Has-filter : {A : Type 0} (t : A → Bool) (xs : List A) (c : A) → Has (filter t xs) c → Has xs c × (t c ≡ true)
Has-filter t [] c h = absurd h
Has-filter t (x ∷ xs) c h =
    split (t x)
    (λ e. let k : (x ≡ c) ⊎ Has (filter t xs) c = rw e at h in
    elim k [
      | inl same ↦ (inl same, subst (λ z. t z ≡ true) same e)
      | inr m ↦ let more = Has-filter t xs c m in
          (inr more.0, more.1)
    ])
    (λ e. let k : Has (filter t xs) c = rw e at h in let more = Has-filter t xs c k in (inr more.0, more.1))

pub Has-from_filter : {A : Type 0} (t : A → Bool) (xs : List A) (c : A) → Has xs c → t c ≡ true → Has (filter t xs) c
Has-from_filter t [] c h p = absurd h
Has-from_filter t (x ∷ xs) c (inl same) p = rw (ap t same ∙ p) (inl same)
Has-from_filter t (x ∷ xs) c (inr m) p = split (t x) (λ e. rw e (inr (Has-from_filter t xs c m p)))
    (λ e. rw e (Has-from_filter t xs c m p))

pub IsRising-filter : {A : Type 0} (at : A → Character) (t : A → Bool) (xs : List A) → IsRising at xs →
    IsRising at (filter t xs)
IsRising-filter at t [] r = tt
IsRising-filter at t (x ∷ xs) r =
    split (t x) (λ e. rw e (
      each-filter (λ y. newer (at y).stamp (at x).stamp ≡ true) t xs r.0,
      IsRising-filter at t xs r.1,
    )) (λ e. rw e (IsRising-filter at t xs r.1))

pub distinct-filter : {A : Type 0} (at : A → Character) (t : A → Bool) (xs : List A) → IsDistinct (same_item at) xs →
    IsDistinct (same_item at) (filter t xs)
distinct-filter at t [] d = IsDistinct-nil at
distinct-filter at t (x ∷ xs) d =
    let parts = IsDistinct-parts at x xs d in
    split (t x)
    (λ e. rw e (IsDistinct-from_parts at x (filter t xs)
    (each-filter (λ y. same_stamp (at x).stamp (at y).stamp ≡ false) t xs parts.0) (distinct-filter at t xs parts.1)))
    (λ e. rw e (distinct-filter at t xs parts.1))

pub rising-filter : {A : Type 0} (at : A → Character) (t : A → Bool) (s : List A) → IsDistinct (same_item at) s →
    rising at (filter t s) ≡ filter t (rising at s)
rising-filter at t s d =
    let p = rising-permutation at s in
    let q = rising-permutation at (filter t s) in
    rising_unique at (rising at (filter t s)) (filter t (rising at s))
    (IsRising-rising at (filter t s) (distinct-filter at t s d))
    (IsRising-filter at t (rising at s) (IsRising-rising at s d))
    (λ c h. let m = Has-filter t s c (Has-permutation (rising at (filter t s))
    (filter t s) c (IsPermutation-sym (filter t s) (rising at (filter t s)) q) h) in
    Has-from_filter t (rising at s) c (Has-permutation s (rising at s) c p m.0) m.1)
    (λ c h. let m = Has-filter t (rising at s) c h in Has-permutation (filter t s) (rising at (filter t s)) c q
    (Has-from_filter t s c (Has-permutation (rising at s) s c (IsPermutation-sym s (rising at s) p) m.0) m.1))

-- no item that passes the test is a child of one that fails it
abbrev pub IsClosed : {A : Type 0} → (A → Character) → (A → Bool) → List A → Type 0
IsClosed at t [] = Unit {0}
IsClosed at t (x ∷ later) = (t x ≡ false → AllByRecursion (λ y. same_parent (at y).parent (Some (at x).stamp) ≡ false)
    (filter t later)) × IsClosed at t later

pub walk-filter : {A : Type 0} (at : A → Character) (t : A → Bool) (u : List A) (q : Option Stamp) → IsClosed at t u →
    walk_rising at (filter t u) q ≡ filter t (walk_rising at u q)
walk-filter at t [] q c = refl
walk-filter at t (x ∷ later) q c =
    split (same_parent (at x).parent q)
    (λ is. rw (is, filter-append t (walk_rising at later q) (x ∷ walk_rising at later (Some (at x).stamp)))
    (split (t x)
    (λ yes. rw (yes, is, walk-filter at t later q c.1, walk-filter at t later (Some (at x).stamp) c.1) refl)
    (λ no. rw (
      no,
      ← walk-filter at t later (Some (at x).stamp) c.1,
      walk_none at (filter t later) (Some (at x).stamp)
          (c.0 no),
      walk-filter at t later q c.1,
    ) (sym (append-nil (filter t (walk_rising at later q)))))))
    (λ not. rw not
    (split (t x)
    (λ yes. rw (yes, not) (walk-filter at t later q c.1))
    (λ no. rw no (walk-filter at t later q c.1))))

-- the stamp of an item that fails the test is none of those that pass
pub dropped_absent : {A : Type 0} (at : A → Character) (t : A → Bool) (s : List A) (x : A) →
    IsDistinct (same_item at) s → Has s x → t x ≡ false → has_stamp at (filter t s) (at x).stamp ≡ false
dropped_absent at t s x d h fails =
    split (has_stamp at (filter t s) (at x).stamp)
    (λ e. let found = item_of_stamp at (filter t s) (at x).stamp e in
    let kept = Has-filter t s found.0 found.1.0 in
    absurd (both_ways _ fails (subst (λ z. t z ≡ true) (same_of_stamp at s found.0 x d kept.0 h found.1.1) kept.1)))
    (λ e. e)

closed_part : {A : Type 0} (at : A → Character) (t : A → Bool) (s v : List A) → IsDistinct (same_item at) s →
    AllByRecursion (λ y. has_parent at (filter t s) (at y).parent ≡ true) (filter t s) → ((c : A) → Has v c → Has s c) →
    IsClosed at t v
closed_part at t s [] d r h = tt
closed_part at t s (x ∷ later) d r h = (
  (λ no. each_Has (λ y. same_parent (at y).parent (Some (at x).stamp) ≡ false) (filter t later)
      (λ y m. let kept = Has-filter t later y m in
      let rooted : has_parent at (filter t s) (at y).parent ≡ true =
      Has-each (λ y. has_parent at (filter t s) (at y).parent ≡ true)
      (filter t s) y r (Has-from_filter t s y (h y (inr kept.0)) kept.1) in
      split (same_parent (at y).parent (Some (at x).stamp))
      (λ e. absurd (both_ways _ (dropped_absent at t s x d (h x (inl refl)) no)
      (subst (λ p. has_parent at (filter t s) p ≡ true) (same_parent-true (at y).parent (at x).stamp e) rooted)))
      (λ e. e))),
  closed_part at t s later d r (λ c m. h c (inr m)),
)

pub order-filter : {A : Type 0} (at : A → Character) (t : A → Bool) (s : List A) → IsTree at s →
    IsTree at (filter t s) → order at (filter t s) ≡ filter t (order at s)
order-filter at t s whole part =
    ap (λ u. walk_rising at u None) (rising-filter at t s whole.distinct)
    ∙ walk-filter at t (rising at s) None (closed_part at t s (rising at s) whole.distinct part.rooted
    (λ c m. Has-permutation (rising at s) s c (IsPermutation-sym s (rising at s) (rising-permutation at s)) m))

pub filter-subsequence : {A : Type 0} (t : A → Bool) (xs : List A) → IsSubsequence (filter t xs) xs
filter-subsequence t [] = done
filter-subsequence t (x ∷ xs) = split (t x) (λ e. rw e (keep (filter-subsequence t xs)))
    (λ e. rw e (skip (filter-subsequence t xs)))

-- the order of fewer items is a subsequence of that of more
pub order-subset : {A : Type 0} (at : A → Character) (s u : List A) → IsTree at s → IsTree at u →
    ((c : A) → Has s c → Has u c) → IsSubsequence (order at s) (order at u)
order-subset {A} at s u small large h =
    let t : A → Bool = λ c. has_stamp at s (at c).stamp in
    let there : (c : A) → Has s c → Has (filter t u) c = λ c m. Has-from_filter t u c (h c m) (has_stamp_of at s c m) in
    let back : (c : A) → Has (filter t u) c → Has s c =
    λ c m. let kept = Has-filter t u c m in
    let found = item_of_stamp at s (at c).stamp kept.1 in
    subst (Has s) (same_of_stamp at u found.0 c large.distinct (h found.0 found.1.0) kept.0 found.1.1) found.1.0
    in
    let same_parents : (p : Option Stamp) → has_parent at s p ≡ true → has_parent at (filter t u) p ≡ true =
    λ p e. parents at s (filter t u) there p e
    in
    let part : IsTree at (filter t u) = record {
      distinct = distinct-filter at t u large.distinct;
      rooted = each_Has (λ c. has_parent at (filter t u) (at c).parent ≡ true) (filter t u)
          (λ c m. same_parents (at c).parent (Has-each (λ c. has_parent at s (at c).parent ≡ true) s c small.rooted
          (back c m)));
      later = each-filter (λ c. counter_of (at c).parent < (at c).stamp.counter) t u large.later;
    }
    in
    rw (set_law at s (filter t u) small.distinct part.distinct there back, order-filter at t u large part)
    (filter-subsequence t (order at u))
  where
    parents : {A : Type 0} (at : A → Character) (xs ys : List A) → ((c : A) → Has xs c → Has ys c) →
        (p : Option Stamp) → has_parent at xs p ≡ true → has_parent at ys p ≡ true
    parents at xs ys f None e = refl
    parents at xs ys f (Some s) e = let found = item_of_stamp at xs s e in subst (λ z. has_stamp at ys z ≡ true)
        (same_stamp-true (at found.0).stamp s found.1.1) (has_stamp_of at ys found.0 (f found.0 found.1.0))
