-- The order depends only on the set of items.
use Rattle.std.proofs.Common.{◌≡◌, ℕ, zero, suc, ◌+◌, ◌<◌, ◌≤◌, ◌⊎◌, inl, inr, ◌↔◌, Bool, true, false, cond, List, []}
use Rattle.std.proofs.Common.{◌∷◌, ◌++◌, length, get_or, refl, sym, ap, ◌∙◌, subst, IsPermutation, Contains, filter}
use Rattle.std.proofs.Common.{arith}
use Rattle.std.proofs.lemmas.Bool.{both_ways, false≢true}
use Rattle.std.proofs.lemmas.List.Sorted.{Contains-permutation, IsPermutation-sym}
use Rattle.std.specs.List.{AllByRecursion, IsDistinct}
use Rattle.pad_model.specs.Stamp.{Stamp, newer, same_stamp}
use Rattle.pad_model.specs.Character.{Character}
use Rattle.pad_model.specs.Legal.{has_stamp, same_item}
use Rattle.pad_model.specs.Order.{rising, walk_rising, order}
use Rattle.pad_model.proofs.Newer.{split, newer-irrefl, newer-asym, same_stamp-refl, same_stamp-sym}
use Rattle.pad_model.proofs.Rising.{IsRising, IsRising-rising, rising-permutation, IsDistinct-parts}

-- c is one of the items
abbrev pub Has : {A : Type 0} → List A → A → Type 0
Has [] c = ⊥
Has (x ∷ xs) c = (x ≡ c) ⊎ Has xs c

pub Has-from_Contains : {A : Type 0} (xs : List A) (c : A) → Contains xs c → Has xs c
Has-from_Contains [] c h = absurd (omega (arith, h.1))
Has-from_Contains (x ∷ xs) c (zero, l, e) = inl e
Has-from_Contains (x ∷ xs) c (suc k, l, e) = inr (Has-from_Contains xs c (k, omega arith, e))

pub Contains-from_Has : {A : Type 0} (xs : List A) (c : A) → Has xs c → Contains xs c
Contains-from_Has [] c h = absurd h
Contains-from_Has (x ∷ xs) c (inl e) = (zero, omega arith, e)
Contains-from_Has (x ∷ xs) c (inr h) = let at = Contains-from_Has xs c h in (suc at.0, omega (arith, at.1), at.2)

pub Has-permutation : {A : Type 0} (xs ys : List A) (c : A) → IsPermutation xs ys → Has xs c → Has ys c
Has-permutation xs ys c p h = Has-from_Contains ys c (Contains-permutation xs ys c p (Contains-from_Has xs c h))

pub Has-each : {A : Type 0} (P : A → Type 0) (xs : List A) (c : A) → AllByRecursion P xs → Has xs c → P c
Has-each P [] c h k = absurd k
Has-each P (x ∷ xs) c h (inl e) = subst P e h.0
Has-each P (x ∷ xs) c h (inr k) = Has-each P xs c h.1 k

pub each_Has : {A : Type 0} (P : A → Type 0) (xs : List A) → ((c : A) → Has xs c → P c) → AllByRecursion P xs
each_Has P [] h = tt
each_Has P (x ∷ xs) h = (h x (inl refl), each_Has P xs (λ c k. h c (inr k)))

tail_has : {A : Type 0} (at : A → Character) (x : A) (xs ys : List A) → IsRising at (x ∷ xs) →
    ((c : A) → Has (x ∷ xs) c → Has (x ∷ ys) c) → (c : A) → Has xs c → Has ys c
tail_has at x xs ys r h c k =
    elim (h c (inr k)) [
      | inl e ↦ absurd (both_ways _ (newer-irrefl (at x).stamp)
          (Has-each (λ y. newer (at y).stamp (at x).stamp ≡ true) xs x r.0 (rw e k)))
      | inr m ↦ m
    ]

first_same : {A : Type 0} (at : A → Character) (x y : A) (xs ys : List A) → IsRising at (x ∷ xs) →
    IsRising at (y ∷ ys) → Has (y ∷ ys) x → Has (x ∷ xs) y → x ≡ y
first_same at x y xs ys r q (inl e) k = sym e
first_same at x y xs ys r q (inr h) (inl e) = e
first_same at x y xs ys r q (inr h) (inr k) =
    absurd (both_ways _ (newer-asym (at x).stamp (at y).stamp
    (Has-each (λ z. newer (at z).stamp (at y).stamp ≡ true) ys x q.0 h))
    (Has-each (λ z. newer (at z).stamp (at x).stamp ≡ true) xs y r.0 k))

-- two lists that rise and have the same items are equal
pub rising_unique : {A : Type 0} (at : A → Character) (xs ys : List A) → IsRising at xs → IsRising at ys →
    ((c : A) → Has xs c → Has ys c) → ((c : A) → Has ys c → Has xs c) → xs ≡ ys
rising_unique at [] [] r q h k = refl
rising_unique at [] (y ∷ ys) r q h k = absurd (k y (inl refl))
rising_unique at (x ∷ xs) [] r q h k = absurd (h x (inl refl))
rising_unique at (x ∷ xs) (y ∷ ys) r q h k =
    let same = first_same at x y xs ys r q (h x (inl refl)) (k y (inl refl)) in
    let h' : (c : _) → Has xs c → Has ys c =
    tail_has at x xs ys r (λ c m. subst (λ z. Has (z ∷ ys) c) (sym same) (h c m)) in
    let k' : (c : _) → Has ys c → Has xs c = tail_has at y ys xs q (λ c m. subst (λ z. Has (z ∷ xs) c) same (k c m)) in
    rw same (ap (λ l. y ∷ l) (rising_unique at xs ys r.1 q.1 h' k'))

pub set_law : {A : Type 0} (at : A → Character) (s t : List A) → IsDistinct (same_item at) s →
    IsDistinct (same_item at) t → ((c : A) → Has s c → Has t c) → ((c : A) → Has t c → Has s c) → order at s
    ≡ order at t
set_law at s t d e h k =
    let ps = rising-permutation at s in
    let pt = rising-permutation at t in
    ap (λ u. walk_rising at u Rattle.std.proofs.Common.None)
    (rising_unique at (rising at s) (rising at t) (IsRising-rising at s d) (IsRising-rising at t e)
    (λ c m. Has-permutation t (rising at t) c pt
    (h c (Has-permutation (rising at s) s c (IsPermutation-sym s (rising at s) ps) m)))
    (λ c m. Has-permutation s (rising at s) c ps
    (k c (Has-permutation (rising at t) t c (IsPermutation-sym t (rising at t) pt) m))))

-- in a list with no stamp twice, the stamp decides the item
pub same_of_stamp : {A : Type 0} (at : A → Character) (xs : List A) (c d : A) → IsDistinct (same_item at) xs →
    Has xs c → Has xs d → same_stamp (at c).stamp (at d).stamp ≡ true → c ≡ d
same_of_stamp at [] c d a h k e = absurd h
same_of_stamp at (x ∷ xs) c d a (inl p) (inl q) e = sym p ∙ q
same_of_stamp at (x ∷ xs) c d a (inl p) (inr k) e =
    absurd (both_ways _ (Has-each (λ y. same_stamp (at x).stamp (at y).stamp ≡ false) xs d
    (IsDistinct-parts at x xs a).0 k) (rw p e))
same_of_stamp at (x ∷ xs) c d a (inr h) (inl q) e =
    absurd (both_ways _ (Has-each (λ y. same_stamp (at x).stamp (at y).stamp ≡ false) xs c
    (IsDistinct-parts at x xs a).0 h) (rw (q, same_stamp-sym (at d).stamp (at c).stamp) e))
same_of_stamp at (x ∷ xs) c d a (inr h) (inr k) e = same_of_stamp at xs c d (IsDistinct-parts at x xs a).1 h k e

pub has_stamp_of : {A : Type 0} (at : A → Character) (xs : List A) (c : A) → Has xs c → has_stamp at xs (at c).stamp
    ≡ true
has_stamp_of at [] c h = absurd h
has_stamp_of at (x ∷ xs) c (inl e) = Rattle.std.proofs.lemmas.Bool.or_left (same_stamp (at x).stamp (at c).stamp)
    (has_stamp at xs (at c).stamp) (rw e (same_stamp-refl (at c).stamp))
has_stamp_of at (x ∷ xs) c (inr h) = Rattle.std.proofs.lemmas.Bool.or_right _ _ (has_stamp_of at xs c h)

pub item_of_stamp : {A : Type 0} (at : A → Character) (xs : List A) (s : Stamp) → has_stamp at xs s ≡ true →
    (c : A) × (Has xs c × (same_stamp (at c).stamp s ≡ true))
item_of_stamp at [] s h = absurd (false≢true h)
item_of_stamp at (x ∷ xs) s h =
    split (same_stamp (at x).stamp s) (λ e. (x, (inl refl, e)))
    (λ e. let more = item_of_stamp at xs s (rw e at h) in (more.0, (inr more.1.0, more.1.1)))
