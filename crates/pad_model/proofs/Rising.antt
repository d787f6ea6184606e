-- The items from the oldest to the newest.
use Rattle.std.proofs.Common.{◌≡◌, true, false, List, [], ◌∷◌, ◌++◌, refl, ap, IsPermutation, fold, append-nil}
use Rattle.std.proofs.lemmas.List.Sorted.{IsPermutation-refl, IsPermutation-trans, IsPermutation-cons}
use Rattle.std.proofs.lemmas.List.Sorted.{IsPermutation-middle, IsPermutation-append_left}
use Rattle.std.proofs.lemmas.Map.Keys.{IsDistinct-IsPermutation}
use Rattle.std.specs.List.{AllByRecursion, IsDistinct}
use Rattle.pad_model.specs.Stamp.{newer, same_stamp}
use Rattle.pad_model.specs.Character.{Character}
use Rattle.pad_model.specs.Legal.{same_item}
use Rattle.pad_model.specs.Order.{put_rising, rising}
use Rattle.pad_model.proofs.Newer.{split, newer-trans, newer-asym, newer-total, same_stamp-refl, same_stamp-sym}
use Rattle.pad_model.proofs.Each.{each-imply, each-both, each-permutation, each_fails}

-- each item is newer than those before it
abbrev pub IsRising : {A : Type 0} → (A → Character) → List A → Type 0
IsRising at [] = Unit {0}
IsRising at (x ∷ xs) = AllByRecursion (λ y. newer (at y).stamp (at x).stamp ≡ true) xs × IsRising at xs

pub put_rising-permutation : {A : Type 0} (at : A → Character) (c : A) (xs : List A) →
    IsPermutation (c ∷ xs) (put_rising at c xs)
put_rising-permutation at c [] = IsPermutation-refl (c ∷ [])
put_rising-permutation at c (x ∷ xs) =
    split (newer (at x).stamp (at c).stamp)
    (λ e. rw e (IsPermutation-refl (c ∷ x ∷ xs)))
    (λ e. rw e (IsPermutation-trans (c ∷ x ∷ xs) (x ∷ c ∷ xs) (x ∷ put_rising at c xs)
    (IsPermutation-middle (c ∷ []) x xs) (IsPermutation-cons x (c ∷ xs) (put_rising at c xs)
    (put_rising-permutation at c xs))))

rising_onto-permutation : {A : Type 0} (at : A → Character) (acc s : List A) →
    IsPermutation (acc ++ s) (fold (λ sorted c. put_rising at c sorted) acc s)
rising_onto-permutation at acc [] = rw append-nil (IsPermutation-refl acc)
rising_onto-permutation at acc (c ∷ s) =
    IsPermutation-trans (acc ++ c ∷ s) (put_rising at c acc ++ s) _
    (IsPermutation-trans (acc ++ c ∷ s) (c ∷ (acc ++ s)) (put_rising at c acc ++ s) (IsPermutation-middle acc c s)
    (IsPermutation-append_left s (c ∷ acc) (put_rising at c acc) (put_rising-permutation at c acc)))
    (rising_onto-permutation at (put_rising at c acc) s)

pub rising-permutation : {A : Type 0} (at : A → Character) (s : List A) → IsPermutation s (rising at s)
rising-permutation at s = rising_onto-permutation at [] s

-- an item with a new stamp is newer or older than each
pub IsRising-put : {A : Type 0} (at : A → Character) (c : A) (xs : List A) → IsRising at xs →
    AllByRecursion (λ x. same_stamp (at x).stamp (at c).stamp ≡ false) xs → IsRising at (put_rising at c xs)
IsRising-put at c [] r f = (tt, tt)
IsRising-put at c (x ∷ xs) r f =
    split (newer (at x).stamp (at c).stamp)
    (λ e. rw e (
      (
        e,
        each-imply (λ y. newer (at y).stamp (at x).stamp ≡ true) (λ y. newer (at y).stamp (at c).stamp
            ≡ true) (λ y h. newer-trans (at y).stamp (at x).stamp (at c).stamp h e) xs r.0,
      ),
      r,
    ))
    (λ e. rw e
    (let younger : newer (at c).stamp (at x).stamp ≡ true =
    split (newer (at c).stamp (at x).stamp) (λ h. h)
    (λ h. absurd (Rattle.std.proofs.lemmas.Bool.both_ways _ f.0 (rw (newer-total (at x).stamp (at c).stamp e h)
    (same_stamp-refl (at c).stamp))))
    in (
      each-permutation (λ y. newer (at y).stamp (at x).stamp ≡ true) (c ∷ xs) (put_rising at c xs)
          (put_rising-permutation at c xs) (younger, r.0),
      IsRising-put at c xs r.1 f.1,
    )))

pub IsDistinct-parts : {A : Type 0} (at : A → Character) (x : A) (xs : List A) → IsDistinct (same_item at) (x ∷ xs) →
    AllByRecursion (λ y. same_stamp (at x).stamp (at y).stamp ≡ false) xs × IsDistinct (same_item at) xs
unfolding IsDistinct
IsDistinct-parts at x xs d = d

pub IsDistinct-from_parts : {A : Type 0} (at : A → Character) (x : A) (xs : List A) →
    AllByRecursion (λ y. same_stamp (at x).stamp (at y).stamp ≡ false) xs → IsDistinct (same_item at) xs →
    IsDistinct (same_item at) (x ∷ xs)
unfolding IsDistinct
IsDistinct-from_parts at x xs f d = (f, d)

pub distinct-permutation : {A : Type 0} (at : A → Character) (xs ys : List A) → IsPermutation xs ys →
    IsDistinct (same_item at) xs → IsDistinct (same_item at) ys
distinct-permutation at xs ys p d = IsDistinct-IsPermutation (same_item at)
    (λ x y. same_stamp-sym (at x).stamp (at y).stamp) xs ys p d

pub flipped : {A : Type 0} (at : A → Character) (x : A) (xs : List A) →
    AllByRecursion (λ y. same_stamp (at x).stamp (at y).stamp ≡ false) xs →
    AllByRecursion (λ y. same_stamp (at y).stamp (at x).stamp ≡ false) xs
flipped at x xs h = each-imply (λ y. same_stamp (at x).stamp (at y).stamp ≡ false)
    (λ y. same_stamp (at y).stamp (at x).stamp ≡ false) (λ y e. rw same_stamp-sym e) xs h

rising_onto : {A : Type 0} (at : A → Character) (acc s : List A) → IsRising at acc →
    IsDistinct (same_item at) (acc ++ s) → IsRising at (fold (λ sorted c. put_rising at c sorted) acc s)
rising_onto at acc [] r d = r
rising_onto at acc (c ∷ s) r d =
    let front : IsDistinct (same_item at) (c ∷ (acc ++ s)) = distinct-permutation at (acc ++ c ∷ s) (c ∷ (acc ++ s))
    (IsPermutation-middle acc c s) d in
    let new = flipped at c acc (Rattle.pad_model.proofs.Each.each-left _ acc s
    (IsDistinct-parts at c (acc ++ s) front).0) in
    rising_onto at (put_rising at c acc) s (IsRising-put at c acc r new)
    (distinct-permutation at (c ∷ (acc ++ s)) (put_rising at c acc ++ s)
    (IsPermutation-append_left s (c ∷ acc) (put_rising at c acc) (put_rising-permutation at c acc)) front)

pub IsRising-rising : {A : Type 0} (at : A → Character) (s : List A) → IsDistinct (same_item at) s →
    IsRising at (rising at s)
IsRising-rising at s d = rising_onto at [] s tt d

pub rising-push : {A : Type 0} (at : A → Character) (s : List A) (c : A) → rising at (s ++ c ∷ [])
    ≡ put_rising at c (rising at s)
rising-push at s c = Rattle.std.proofs.lemmas.List.Sums.fold-append (λ sorted x. put_rising at x sorted) [] s (c ∷ [])

-- an item newer than all goes last
pub put_rising_last : {A : Type 0} (at : A → Character) (c : A) (xs : List A) →
    AllByRecursion (λ x. newer (at c).stamp (at x).stamp ≡ true) xs → put_rising at c xs ≡ xs ++ c ∷ []
put_rising_last at c [] h = refl
put_rising_last at c (x ∷ xs) h = rw (newer-asym (at c).stamp (at x).stamp h.0)
    (ap (λ l. x ∷ l) (put_rising_last at c xs h.1))

pub IsDistinct-nil : {A : Type 0} (at : A → Character) → IsDistinct (same_item at) []
unfolding IsDistinct
IsDistinct-nil at = tt

pub distinct-left : {A : Type 0} (at : A → Character) (w v : List A) → IsDistinct (same_item at) (w ++ v) →
    IsDistinct (same_item at) w
distinct-left at [] v d = IsDistinct-nil at
distinct-left at (x ∷ w) v d =
    let parts = IsDistinct-parts at x (w ++ v) d in
    IsDistinct-from_parts at x w (Rattle.pad_model.proofs.Each.each-left (λ y. same_stamp (at x).stamp (at y).stamp
    ≡ false) w v parts.0) (distinct-left at w v parts.1)
