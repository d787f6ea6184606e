-- RGA's scan and the preorder put a new character at the same place.
use Rattle.std.proofs.Common.{◌≡◌, ◌<◌, Bool, true, false, cond, List, [], ◌∷◌, ◌++◌, Option, Some, None, refl, sym, ap}
use Rattle.std.proofs.Common.{subst, append-nil, IsPermutation}
use Rattle.std.proofs.lemmas.Bool.{both_ways, or_parts}
use Rattle.std.proofs.lemmas.List.Sorted.{IsPermutation-refl, IsPermutation-trans, IsPermutation-cons}
use Rattle.std.proofs.lemmas.List.Sorted.{IsPermutation-middle}
use Rattle.std.specs.List.{AllByRecursion, IsDistinct}
use Rattle.pad_model.specs.Stamp.{Stamp, newer, same_stamp}
use Rattle.pad_model.specs.Character.{Character}
use Rattle.pad_model.specs.Legal.{has_stamp, has_parent, same_item, counter_of}
use Rattle.pad_model.specs.Order.{same_parent, put_rising, walk_rising}
use Rattle.pad_model.specs.Scan.{scan_from, scan_behind, put}
use Rattle.pad_model.proofs.Newer.{split, newer-trans, newer-asym, newer_of_counter, same_stamp-true, same_stamp-sym}
use Rattle.pad_model.proofs.Each.{each-append, each-imply}
use Rattle.pad_model.proofs.Rising.{IsRising, IsDistinct-parts}

-- the items with c inserted at the start if b is true, and after each item with the stamp of its parent, always past
-- newer items
abbrev pub everywhere : {A : Type 0} → (A → Character) → Option Stamp → A → Bool → List A → List A
everywhere at p c b [] = cond b (c ∷ []) []
everywhere at p c b (x ∷ xs) =
    cond (newer (at x).stamp (at c).stamp) (x ∷ everywhere at p c b xs)
    (cond b (c ∷ x ∷ everywhere at p c (same_parent p (Some (at x).stamp)) xs)
    (x ∷ everywhere at p c (same_parent p (Some (at x).stamp)) xs))

joined : {A : Type 0} (b : Bool) (c z : A) (l m : List A) (e k : List A) → e ≡ l ++ m → cond b (c ∷ z ∷ e) (z ∷ e)
    ≡ cond b (c ∷ z ∷ l) (z ∷ l) ++ m
joined true c z l m e k h = ap (λ t. c ∷ z ∷ t) h
joined false c z l m e k h = ap (λ t. z ∷ t) h

-- a list splits at an item that is not newer
pub everywhere-append : {A : Type 0} (at : A → Character) (p : Option Stamp) (c : A) (b : Bool) (xs : List A) (x : A)
    (ys : List A) → newer (at x).stamp (at c).stamp ≡ false →
    everywhere at p c b (xs ++ x ∷ ys) ≡ everywhere at p c b xs ++ x
    ∷ everywhere at p c (same_parent p (Some (at x).stamp)) ys
everywhere-append at p c true [] x ys old = rw old refl
everywhere-append at p c false [] x ys old = rw old refl
everywhere-append at p c b (z ∷ zs) x ys old =
    split (newer (at z).stamp (at c).stamp)
    (λ e. rw e (ap (λ l. z ∷ l) (everywhere-append at p c b zs x ys old)))
    (λ e. rw e (joined b c z _ _ _ [] (everywhere-append at p c (same_parent p (Some (at z).stamp)) zs x ys old)))

-- if all items are newer, c goes last
pub everywhere_all_newer : {A : Type 0} (at : A → Character) (p : Option Stamp) (c : A) (b : Bool) (xs : List A) →
    AllByRecursion (λ x. newer (at x).stamp (at c).stamp ≡ true) xs →
    everywhere at p c b xs ≡ xs ++ cond b (c ∷ []) []
everywhere_all_newer at p c b [] h = refl
everywhere_all_newer at p c b (x ∷ xs) h = rw h.0 (ap (λ l. x ∷ l) (everywhere_all_newer at p c b xs h.1))

-- what holds for each item holds for each item of a walk
pub each-walk : {A : Type 0} (at : A → Character) (P : A → Type 0) (u : List A) (q : Option Stamp) →
    AllByRecursion P u → AllByRecursion P (walk_rising at u q)
each-walk at P [] q h = tt
each-walk at P (x ∷ later) q h =
    split (same_parent (at x).parent q)
    (λ e. rw e (each-append P (walk_rising at later q) (x ∷ walk_rising at later (Some (at x).stamp))
    (each-walk at P later q h.1) (h.0, each-walk at P later (Some (at x).stamp) h.1)))
    (λ e. rw e (each-walk at P later q h.1))

-- a place that is no item's parent has no descendants
pub walk_none : {A : Type 0} (at : A → Character) (u : List A) (q : Option Stamp) →
    AllByRecursion (λ x. same_parent (at x).parent q ≡ false) u → walk_rising at u q ≡ []
walk_none at [] q h = refl
walk_none at (x ∷ later) q h = rw h.0 (walk_none at later q h.1)

ended : {A : Type 0} (b : Bool) (w : List A) (c : A) → cond b (w ++ c ∷ []) w ≡ w ++ cond b (c ∷ []) []
ended true w c = refl
ended false w c = sym (append-nil w)

-- a new item joins the walk wherever the place that it wants is met
pub walk-put : {A : Type 0} (at : A → Character) (p : Option Stamp) (c : A) (u : List A) (q : Option Stamp) →
    (at c).parent ≡ p → IsRising at u → AllByRecursion (λ x. same_parent (at x).parent (Some (at c).stamp) ≡ false) u →
    walk_rising at (put_rising at c u) q ≡ everywhere at p c (same_parent p q) (walk_rising at u q)
walk-put at p c [] q is r n = rw is refl
walk-put at p c (x ∷ later) q is r n =
    split (newer (at x).stamp (at c).stamp)
    (λ e. rw e
    (let newer_all : AllByRecursion (λ y. newer (at y).stamp (at c).stamp ≡ true)
    (x ∷ later) = (
      e,
      each-imply (λ y. newer (at y).stamp (at x).stamp ≡ true) (λ y. newer (at y).stamp (at c).stamp
          ≡ true) (λ y h. newer-trans (at y).stamp (at x).stamp (at c).stamp h e) later r.0,
    ) in
    rw (
      is,
      walk_none at (x ∷ later) (Some (at c).stamp) n,
      everywhere_all_newer at p c (same_parent p q)
          (walk_rising at (x ∷ later) q) (each-walk at (λ y. newer (at y).stamp (at c).stamp ≡ true) (x ∷ later) q newer_all),
    )
    (ended (same_parent p q) _ c)))
    (λ e. rw e
    (split (same_parent (at x).parent q)
    (λ f. rw (f, walk-put at p c later q is r.1 n.1, walk-put at p c later (Some (at x).stamp) is r.1 n.1)
    (sym (everywhere-append at p c (same_parent p q) (walk_rising at later q) x
    (walk_rising at later (Some (at x).stamp)) e)))
    (λ f. rw f (walk-put at p c later q is r.1 n.1))))

-- if no item is the parent, the start is the only place
pub everywhere_none : {A : Type 0} (at : A → Character) (p : Option Stamp) (c : A) (xs : List A) →
    AllByRecursion (λ x. same_parent p (Some (at x).stamp) ≡ false) xs → everywhere at p c false xs ≡ xs
everywhere_none at p c [] h = refl
everywhere_none at p c (x ∷ xs) h =
    split (newer (at x).stamp (at c).stamp)
    (λ e. rw e (ap (λ l. x ∷ l) (everywhere_none at p c xs h.1)))
    (λ e. rw (e, h.0) (ap (λ l. x ∷ l) (everywhere_none at p c xs h.1)))

pub everywhere_scan : {A : Type 0} (at : A → Character) (p : Option Stamp) (c : A) (xs : List A) →
    AllByRecursion (λ x. same_parent p (Some (at x).stamp) ≡ false) xs → everywhere at p c true xs
    ≡ scan_from at (at c).stamp (c ∷ []) xs
everywhere_scan at p c [] h = refl
everywhere_scan at p c (x ∷ xs) h =
    split (newer (at x).stamp (at c).stamp)
    (λ e. rw e (ap (λ l. x ∷ l) (everywhere_scan at p c xs h.1)))
    (λ e. rw (e, h.0) (ap (λ l. c ∷ x ∷ l) (everywhere_none at p c xs h.1)))

-- if one item is the parent, the place is after it
pub everywhere_behind : {A : Type 0} (at : A → Character) (p : Stamp) (c : A) (xs : List A) → newer (at c).stamp p
    ≡ true → IsDistinct (same_item at) xs → has_stamp at xs p ≡ true →
    everywhere at (Some p) c false xs ≡ scan_behind at p (at c).stamp (c ∷ []) xs
everywhere_behind at p c [] y d h = absurd (Rattle.std.proofs.lemmas.Bool.false≢true h)
everywhere_behind at p c (x ∷ xs) y d h =
    split (same_stamp (at x).stamp p)
    (λ same. rw (newer_not at p c x y same, same, same_stamp-sym p (at x).stamp, same)
    (ap (λ l. x ∷ l) (everywhere_scan at (Some p) c xs (each-imply (λ z. same_stamp (at x).stamp (at z).stamp ≡ false)
    (λ z. same_stamp p (at z).stamp ≡ false) (λ z e. subst (λ s. same_stamp s (at z).stamp ≡ false)
    (same_stamp-true (at x).stamp p same) e) xs (IsDistinct-parts at x xs d).0))))
    (λ other.
    let rest : has_stamp at xs p ≡ true = rw other at h in
    rw (other, same_stamp-sym p (at x).stamp, other)
    (split (newer (at x).stamp (at c).stamp)
    (λ e. rw e (ap (λ l. x ∷ l) (everywhere_behind at p c xs y (IsDistinct-parts at x xs d).1 rest)))
    (λ e. rw e (ap (λ l. x ∷ l) (everywhere_behind at p c xs y (IsDistinct-parts at x xs d).1 rest)))))
  where
    newer_not : {A : Type 0} (at : A → Character) (p : Stamp) (c x : A) → newer (at c).stamp p ≡ true →
        same_stamp (at x).stamp p ≡ true → newer (at x).stamp (at c).stamp ≡ false
    newer_not at p c x y same = rw (same_stamp-true (at x).stamp p same) (newer-asym (at c).stamp p y)

pub scan_from-permutation : {A : Type 0} (at : A → Character) (first : Stamp) (block xs : List A) →
    IsPermutation (block ++ xs) (scan_from at first block xs)
scan_from-permutation at first block [] = rw append-nil (IsPermutation-refl block)
scan_from-permutation at first block (x ∷ xs) =
    split (newer (at x).stamp first)
    (λ e. rw e (IsPermutation-trans (block ++ x ∷ xs) (x ∷ (block ++ xs)) (x ∷ scan_from at first block xs)
    (IsPermutation-middle block x xs) (IsPermutation-cons x (block ++ xs) (scan_from at first block xs)
    (scan_from-permutation at first block xs))))
    (λ e. rw e (IsPermutation-refl (block ++ x ∷ xs)))

pub scan_behind-permutation : {A : Type 0} (at : A → Character) (p first : Stamp) (block xs : List A) →
    IsPermutation (block ++ xs) (scan_behind at p first block xs)
scan_behind-permutation at p first block [] = rw append-nil (IsPermutation-refl block)
scan_behind-permutation at p first block (x ∷ xs) =
    split (same_stamp (at x).stamp p)
    (λ e. rw e (IsPermutation-trans (block ++ x ∷ xs) (x ∷ (block ++ xs)) (x ∷ scan_from at first block xs)
    (IsPermutation-middle block x xs) (IsPermutation-cons x (block ++ xs) (scan_from at first block xs)
    (scan_from-permutation at first block xs))))
    (λ e. rw e (IsPermutation-trans (block ++ x ∷ xs) (x ∷ (block ++ xs)) (x ∷ scan_behind at p first block xs)
    (IsPermutation-middle block x xs) (IsPermutation-cons x (block ++ xs) (scan_behind at p first block xs)
    (scan_behind-permutation at p first block xs))))

-- a block that is put only joins the items
pub put-permutation : {A : Type 0} (at : A → Character) (p : Option Stamp) (first : Stamp) (block xs : List A) →
    IsPermutation (block ++ xs) (put at p first block xs)
put-permutation at None first block xs = scan_from-permutation at first block xs
put-permutation at (Some p) first block xs = scan_behind-permutation at p first block xs

each_root : {A : Type 0} (at : A → Character) (xs : List A) → AllByRecursion (λ x. same_parent None (Some (at x).stamp)
    ≡ false) xs
each_root at [] = tt
each_root at (x ∷ xs) = (refl, each_root at xs)

-- if the parent is the root or one of the items, there is exactly one place
pub everywhere-put : {A : Type 0} (at : A → Character) (p : Option Stamp) (c : A) (xs : List A) → has_parent at xs p
    ≡ true → counter_of p < (at c).stamp.counter → IsDistinct (same_item at) xs →
    everywhere at p c (same_parent p None) xs ≡ put at p (at c).stamp (c ∷ []) xs
everywhere-put at None c xs h l d = everywhere_scan at None c xs (each_root at xs)
everywhere-put at (Some p) c xs h l d = everywhere_behind at p c xs (newer_of_counter (at c).stamp p l) d h
