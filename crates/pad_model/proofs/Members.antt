-- The order has exactly the items of the set, and a new item joins it where the scan puts it.
use Rattle.std.proofs.Common.{◌≡◌, ℕ, ◌<◌, Bool, true, false, cond, ◌||◌, List, [], ◌∷◌, ◌++◌, Option, Some, None, refl}
use Rattle.std.proofs.Common.{sym, ap, ◌∙◌, subst, append_assoc, append-nil, IsPermutation, arith}
use Rattle.std.proofs.lemmas.Bool.{both_ways, false≢true, or_from, or_parts}
use Rattle.std.proofs.lemmas.List.Folds.{list_any-append}
use Rattle.std.proofs.lemmas.List.Sorted.{IsPermutation-refl, IsPermutation-trans, IsPermutation-cons}
use Rattle.std.proofs.lemmas.List.Sorted.{IsPermutation-to_front, list_any-IsPermutation}
use Rattle.std.specs.List.{AllByRecursion, list_any}
use Rattle.pad_model.specs.Stamp.{Stamp, newer, same_stamp}
use Rattle.pad_model.specs.Character.{Character}
use Rattle.pad_model.specs.Legal.{has_stamp, has_parent, counter_of, IsTree, MayJoin}
use Rattle.pad_model.specs.Order.{same_parent, rising, walk_rising, order}
use Rattle.pad_model.specs.Scan.{put}
use Rattle.pad_model.proofs.Newer.{split, newer-irrefl, newer-asym, newer_of_counter, same_stamp-true}
use Rattle.pad_model.proofs.Each.{each-imply, each-both, each-permutation, each-left, each-right, none_found}
use Rattle.pad_model.proofs.Rising.{IsRising, IsRising-rising, rising-permutation, rising-push, put_rising_last}
use Rattle.pad_model.proofs.Rising.{distinct-permutation, distinct-left}
use Rattle.pad_model.proofs.Scan.{walk-put, everywhere-put, put-permutation}

pub same_parent-true : (p : Option Stamp) (s : Stamp) → same_parent p (Some s) ≡ true → p ≡ Some s
same_parent-true None s e = absurd (false≢true e)
same_parent-true (Some a) s e = ap Some (same_stamp-true a s e)

pub has_parent-permutation : {A : Type 0} (at : A → Character) (xs ys : List A) (p : Option Stamp) →
    IsPermutation xs ys → has_parent at xs p ≡ has_parent at ys p
has_parent-permutation at xs ys None h = refl
has_parent-permutation at xs ys (Some p) h = list_any-IsPermutation (λ x. same_stamp (at x).stamp p) xs ys h

-- a tree stays one in another order
pub IsTree-permutation : {A : Type 0} (at : A → Character) (xs ys : List A) → IsPermutation xs ys → IsTree at xs →
    IsTree at ys
IsTree-permutation at xs ys h t = record {
  distinct = distinct-permutation at xs ys h t.distinct;
  rooted = each-permutation (λ c. has_parent at ys (at c).parent ≡ true) xs ys h
      (each-imply (λ c. has_parent at xs (at c).parent ≡ true) (λ c. has_parent at ys (at c).parent ≡ true)
      (λ c e. sym (has_parent-permutation at xs ys (at c).parent h) ∙ e) xs t.rooted);
  later = each-permutation (λ c. counter_of (at c).parent < (at c).stamp.counter) xs ys h t.later;
}

-- an item older than c is not a child of c
pub not_below : {A : Type 0} (at : A → Character) (c x : A) → counter_of (at x).parent < (at x).stamp.counter →
    newer (at c).stamp (at x).stamp ≡ true → same_parent (at x).parent (Some (at c).stamp) ≡ false
not_below at c x later older =
    split (same_parent (at x).parent (Some (at c).stamp))
    (λ e. absurd (both_ways _ (newer-asym (at c).stamp (at x).stamp older)
    (newer_of_counter (at x).stamp (at c).stamp (subst (λ p. counter_of p < (at x).stamp.counter)
    (same_parent-true (at x).parent (at c).stamp e) later))))
    (λ e. e)

-- the items before c are older, and rise
pub rising_front : {A : Type 0} (at : A → Character) (w : List A) (c : A) (rest : List A) →
    IsRising at (w ++ c ∷ rest) → AllByRecursion (λ x. newer (at c).stamp (at x).stamp ≡ true) w × IsRising at w
    × IsRising at (c ∷ rest)
rising_front at [] c rest r = (tt, tt, r)
rising_front at (x ∷ w) c rest r =
    let later = rising_front at w c rest r.1 in (
      ((each-right (λ y. newer (at y).stamp (at x).stamp ≡ true) w (c ∷ rest) r.0).0, later.0),
      (each-left (λ y. newer (at y).stamp (at x).stamp ≡ true) w (c ∷ rest) r.0, later.1),
      later.2,
    )

-- a parent older than c comes before c
older_in_front : {A : Type 0} (at : A → Character) (w : List A) (c : A) (rest : List A) (q : Stamp) →
    IsRising at (c ∷ rest) → newer (at c).stamp q ≡ true → has_stamp at (w ++ c ∷ rest) q ≡ true → has_stamp at w q
    ≡ true
older_in_front at w c rest q r older h =
    let first : same_stamp (at c).stamp q ≡ false =
    split (same_stamp (at c).stamp q) (λ e. absurd
    (both_ways _ (newer-irrefl q) (subst (λ s. newer s q ≡ true) (same_stamp-true (at c).stamp q e) older))) (λ e. e)
    in
    let others : list_any (λ x. same_stamp (at x).stamp q) rest ≡ false =
    none_found (λ x. same_stamp (at x).stamp q) rest
    (each-imply (λ y. newer (at y).stamp (at c).stamp ≡ true) (λ y. same_stamp (at y).stamp q ≡ false)
    (λ y n. split (same_stamp (at y).stamp q)
    (λ e. absurd (both_ways _ (newer-asym (at c).stamp q older)
    (subst (λ s. newer s (at c).stamp ≡ true) (same_stamp-true (at y).stamp q e) n))) (λ e. e)) rest r.0)
    in
    let behind : has_stamp at (c ∷ rest) q ≡ false = or_from _ _ first others in
    elim (Rattle.std.proofs.lemmas.Bool.or_cases _ _
    (sym (list_any-append (λ x. same_stamp (at x).stamp q) w (c ∷ rest)) ∙ h)) [
      | Rattle.std.proofs.Common.inl e ↦ e
      | Rattle.std.proofs.Common.inr e ↦ absurd (both_ways _ behind e)
    ]

parent_in_front : {A : Type 0} (at : A → Character) (w : List A) (c : A) (rest : List A) (p : Option Stamp) →
    IsRising at (c ∷ rest) → counter_of p < (at c).stamp.counter → has_parent at (w ++ c ∷ rest) p ≡ true →
    has_parent at w p ≡ true
parent_in_front at w c rest None r l h = refl
parent_in_front at w c rest (Some q) r l h = older_in_front at w c rest q r (newer_of_counter (at c).stamp q l) h

-- a newest item joins the walk where the scan puts it
newest_step : {A : Type 0} (at : A → Character) (w : List A) (c : A) (rest : List A) → IsRising at (w ++ c ∷ rest) →
    IsTree at (w ++ c ∷ rest) → IsPermutation w (walk_rising at w None) →
    IsPermutation (w ++ c ∷ []) (walk_rising at (w ++ c ∷ []) None)
newest_step at w c rest r t h =
    let front = rising_front at w c rest r in
    let later = each-left (λ x. counter_of (at x).parent < (at x).stamp.counter) w (c ∷ rest) t.later in
    let mine : counter_of (at c).parent < (at c).stamp.counter =
    (each-right (λ x. counter_of (at x).parent < (at x).stamp.counter) w (c ∷ rest) t.later).0 in
    let below = each-both (λ x. counter_of (at x).parent < (at x).stamp.counter) (λ x. newer (at c).stamp (at x).stamp
    ≡ true) (λ x. same_parent (at x).parent (Some (at c).stamp) ≡ false)
    (λ x l o. not_below at c x l o) w later front.0 in
    let here : has_parent at w (at c).parent ≡ true = parent_in_front at w c rest (at c).parent front.2 mine
    (each-right (λ x. has_parent at (w ++ c ∷ rest) (at x).parent ≡ true) w (c ∷ rest) t.rooted).0 in
    let walked : has_parent at (walk_rising at w None) (at c).parent ≡ true =
    sym (has_parent-permutation at w (walk_rising at w None) (at c).parent h) ∙ here in
    let apart = distinct-permutation at w (walk_rising at w None) h (distinct-left at w (c ∷ rest) t.distinct) in
    let is : walk_rising at (w ++ c ∷ []) None ≡ put at (at c).parent (at c).stamp (c ∷ []) (walk_rising at w None) =
    ap (λ u. walk_rising at u None) (sym (put_rising_last at c w front.0))
    ∙ walk-put at (at c).parent c w None refl front.1 below ∙ everywhere-put at (at c).parent c (walk_rising at w None)
    walked mine apart
    in
    rw is
    (IsPermutation-trans (w ++ c ∷ []) (c ∷ w) _ (IsPermutation-to_front w c)
    (IsPermutation-trans (c ∷ w) (c ∷ walk_rising at w None) _ (IsPermutation-cons c w (walk_rising at w None) h)
    (put-permutation at (at c).parent (at c).stamp (c ∷ []) (walk_rising at w None))))

walk_onto : {A : Type 0} (at : A → Character) (u w v : List A) → u ≡ w ++ v → IsRising at u → IsTree at u →
    IsPermutation w (walk_rising at w None) → IsPermutation u (walk_rising at u None)
walk_onto at u w [] e r t h = rw (e, append-nil) h
walk_onto at u w (c ∷ rest) e r t h =
    walk_onto at u (w ++ c ∷ []) rest (e ∙ sym (append_assoc w (c ∷ []) rest)) r t
    (newest_step at w c rest (subst (IsRising at) e r) (subst (IsTree at) e t) h)

pub order-permutation : {A : Type 0} (at : A → Character) (s : List A) → IsTree at s → IsPermutation s (order at s)
order-permutation at s t =
    let sorted = rising-permutation at s in
    IsPermutation-trans s (rising at s) (order at s) sorted
    (walk_onto at (rising at s) [] (rising at s) refl (IsRising-rising at s t.distinct)
    (IsTree-permutation at s (rising at s) sorted t) (IsPermutation-refl []))

pub order-push : {A : Type 0} (at : A → Character) (s : List A) (c : A) → IsTree at s → MayJoin at s c →
    order at (s ++ c ∷ []) ≡ put at (at c).parent (at c).stamp (c ∷ []) (order at s)
order-push at s c t j =
    let all = order-permutation at s t in
    let childless : AllByRecursion (λ x. same_parent (at x).parent (Some (at c).stamp) ≡ false) s =
    each-imply (λ x. has_parent at s (at x).parent ≡ true) (λ x. same_parent (at x).parent (Some (at c).stamp) ≡ false)
    (λ x h. split (same_parent (at x).parent (Some (at c).stamp))
    (λ e. absurd (both_ways _ j.fresh (subst (λ p. has_parent at s p ≡ true)
    (same_parent-true (at x).parent (at c).stamp e) h))) (λ e. e)) s t.rooted
    in
    ap (λ u. walk_rising at u None) (rising-push at s c)
    ∙ walk-put at (at c).parent c (rising at s) None refl (IsRising-rising at s t.distinct)
    (each-permutation (λ x. same_parent (at x).parent (Some (at c).stamp) ≡ false) s (rising at s)
    (rising-permutation at s) childless)
    ∙ everywhere-put at (at c).parent c (order at s) (sym (has_parent-permutation at s (order at s) (at c).parent all)
    ∙ j.rooted) j.later (distinct-permutation at s (order at s) all t.distinct)
