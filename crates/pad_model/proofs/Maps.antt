-- A list seen through a function.
use Rattle.std.proofs.Common.{◌≡◌, ◌<◌, ◌+◌, cond, Bool, true, false, ◌||◌, ◌&&◌, List, [], ◌∷◌, Option, Some, None}
use Rattle.std.proofs.Common.{refl, sym, ap, ap₂, ◌∙◌, not, eqb, ltb, map, filter, fold}
use Rattle.std.proofs.lemmas.List.{map-append}
use Rattle.std.specs.List.{list_any, list_all, AllByRecursion, IsDistinct}
use Rattle.pad_model.specs.Stamp.{Stamp, newer, same_stamp}
use Rattle.pad_model.specs.Character.{Character}
use Rattle.pad_model.specs.Order.{same_parent, put_rising, rising, walk_rising, order}
use Rattle.pad_model.specs.Legal.{has_parent, same_item, IsTree, counter_of}
use Rattle.pad_model.specs.Log.{run_may_join, stands_before}
use Rattle.pad_model.specs.Scan.{scan_from, put}
use Rattle.pad_model.specs.Visible.{shown_before, shown_through}
use Rattle.pad_model.proofs.Newer.{split}

pub map-map : {A B C : Type 0} (f : A → B) (g : B → C) (xs : List A) → map g (map f xs) ≡ map (λ x. g (f x)) xs
map-map f g [] = refl
map-map f g (x ∷ xs) = ap (λ l. g (f x) ∷ l) (map-map f g xs)

pub filter-map : {A B : Type 0} (f : A → B) (t : B → Bool) (xs : List A) → filter t (map f xs)
    ≡ map f (filter (λ x. t (f x)) xs)
filter-map f t [] = refl
filter-map f t (x ∷ xs) = split (t (f x)) (λ e. rw e (ap (λ l. f x ∷ l) (filter-map f t xs)))
    (λ e. rw e (filter-map f t xs))

pub list_any-map : {A B : Type 0} (f : A → B) (t : B → Bool) (xs : List A) → list_any t (map f xs)
    ≡ list_any (λ x. t (f x)) xs
list_any-map f t [] = refl
list_any-map f t (x ∷ xs) = ap (λ b. t (f x) || b) (list_any-map f t xs)

pub list_all-map : {A B : Type 0} (f : A → B) (t : B → Bool) (xs : List A) → list_all t (map f xs)
    ≡ list_all (λ x. t (f x)) xs
list_all-map f t [] = refl
list_all-map f t (x ∷ xs) = ap (λ b. t (f x) && b) (list_all-map f t xs)

pub each-map : {A B : Type 0} (f : A → B) (P : B → Type 0) (xs : List A) → AllByRecursion (λ x. P (f x)) xs →
    AllByRecursion P (map f xs)
each-map f P [] h = tt
each-map f P (x ∷ xs) h = (h.0, each-map f P xs h.1)

pub each-of_map : {A B : Type 0} (f : A → B) (P : B → Type 0) (xs : List A) → AllByRecursion P (map f xs) →
    AllByRecursion (λ x. P (f x)) xs
each-of_map f P [] h = tt
each-of_map f P (x ∷ xs) h = (h.0, each-of_map f P xs h.1)

put_rising-map : {A B : Type 0} (f : A → B) (at : B → Character) (c : A) (xs : List A) → put_rising at (f c) (map f xs)
    ≡ map f (put_rising (λ x. at (f x)) c xs)
put_rising-map f at c [] = refl
put_rising-map f at c (x ∷ xs) = split (newer (at (f x)).stamp (at (f c)).stamp) (λ e. rw e refl)
    (λ e. rw e (ap (λ l. f x ∷ l) (put_rising-map f at c xs)))

rising_onto-map : {A B : Type 0} (f : A → B) (at : B → Character) (acc s : List A) →
    fold (λ sorted c. put_rising at c sorted) (map f acc) (map f s)
    ≡ map f (fold (λ sorted c. put_rising (λ x. at (f x)) c sorted) acc s)
rising_onto-map f at acc [] = refl
rising_onto-map f at acc (c ∷ s) = ap (λ a. fold (λ sorted c. put_rising at c sorted) a (map f s))
    (put_rising-map f at c acc) ∙ rising_onto-map f at (put_rising (λ x. at (f x)) c acc) s

walk_rising-map : {A B : Type 0} (f : A → B) (at : B → Character) (u : List A) (q : Option Stamp) →
    walk_rising at (map f u) q ≡ map f (walk_rising (λ x. at (f x)) u q)
walk_rising-map f at [] q = refl
walk_rising-map f at (x ∷ later) q =
    split (same_parent (at (f x)).parent q)
    (λ e. rw (e, walk_rising-map f at later q, walk_rising-map f at later (Some (at (f x)).stamp))
    (sym (map-append f (walk_rising (λ x. at (f x)) later q)
    (x ∷ walk_rising (λ x. at (f x)) later (Some (at (f x)).stamp)))))
    (λ e. rw e (walk_rising-map f at later q))

-- the order of mapped items is the mapped order of the items
pub order-map : {A B : Type 0} (f : A → B) (at : B → Character) (s : List A) → order at (map f s)
    ≡ map f (order (λ x. at (f x)) s)
order-map f at s = ap (λ u. walk_rising at u None) (rising_onto-map f at [] s)
    ∙ walk_rising-map f at (rising (λ x. at (f x)) s) None

scan_from-map : {A B : Type 0} (f : A → B) (at : B → Character) (first : Stamp) (block xs : List A) →
    scan_from at first (map f block) (map f xs) ≡ map f (scan_from (λ x. at (f x)) first block xs)
scan_from-map f at first block [] = refl
scan_from-map f at first block (x ∷ xs) = split (newer (at (f x)).stamp first)
    (λ e. rw e (ap (λ l. f x ∷ l) (scan_from-map f at first block xs))) (λ e. rw e (sym (map-append f block (x ∷ xs))))

-- inserting a mapped block among mapped items is mapping the result of the insertion
pub put-map : {A B : Type 0} (f : A → B) (at : B → Character) (p : Option Stamp) (first : Stamp) (block xs : List A) →
    put at p first (map f block) (map f xs) ≡ map f (put (λ x. at (f x)) p first block xs)
put-map f at None first block xs = scan_from-map f at first block xs
put-map f at (Some p) first block [] = refl
put-map f at (Some p) first block (x ∷ xs) =
    split (same_stamp (at (f x)).stamp p)
    (λ e. rw e (ap (λ l. f x ∷ l) (scan_from-map f at first block xs)))
    (λ e. rw e (ap (λ l. f x ∷ l) (put-map f at (Some p) first block xs)))

pub has_parent-map : {A B : Type 0} (f : A → B) (at : B → Character) (xs : List A) (p : Option Stamp) →
    has_parent at (map f xs) p ≡ has_parent (λ x. at (f x)) xs p
has_parent-map f at xs None = refl
has_parent-map f at xs (Some p) = list_any-map f (λ x. same_stamp (at x).stamp p) xs

pub run_may_join-map : {A B : Type 0} (f : A → B) (at : B → Character) (xs : List A) (first : Stamp)
    (p : Option Stamp) → run_may_join at (map f xs) first p ≡ run_may_join (λ x. at (f x)) xs first p
run_may_join-map f at xs first p =
    ap₂ (λ h t. h && ltb (counter_of p) first.counter && t) (has_parent-map f at xs p)
    (list_all-map f (λ x. not (eqb (at x).stamp.replica first.replica) || ltb (at x).stamp.counter first.counter) xs)

IsDistinct-of_map : {A B : Type 0} (f : A → B) (at : B → Character) (xs : List A) →
    IsDistinct (same_item at) (map f xs) → IsDistinct (same_item (λ x. at (f x))) xs
IsDistinct-of_map f at [] d = Rattle.pad_model.proofs.Rising.IsDistinct-nil (λ x. at (f x))
IsDistinct-of_map f at (x ∷ xs) d =
    let parts = Rattle.pad_model.proofs.Rising.IsDistinct-parts at (f x) (map f xs) d in
    Rattle.pad_model.proofs.Rising.IsDistinct-from_parts (λ x. at (f x)) x xs
    (each-of_map f (λ y. same_stamp (at (f x)).stamp (at y).stamp ≡ false) xs parts.0)
    (IsDistinct-of_map f at xs parts.1)

-- items whose images form a tree form one themselves
pub IsTree-of_map : {A B : Type 0} (f : A → B) (at : B → Character) (xs : List A) → IsTree at (map f xs) →
    IsTree (λ x. at (f x)) xs
IsTree-of_map f at xs t = record {
  distinct = IsDistinct-of_map f at xs t.distinct;
  rooted = Rattle.pad_model.proofs.Each.each-imply (λ x. has_parent at (map f xs) (at (f x)).parent ≡ true)
      (λ x. has_parent (λ x. at (f x)) xs (at (f x)).parent ≡ true) (λ x h. sym (has_parent-map f at xs (at (f x)).parent)
      ∙ h) xs (each-of_map f (λ y. has_parent at (map f xs) (at y).parent ≡ true) xs t.rooted);
  later = each-of_map f (λ y. counter_of (at y).parent < (at y).stamp.counter) xs t.later;
}

-- the count before a stamp is the same for mapped items
pub shown_before-map : {A B : Type 0} (f : A → B) (at : B → Character) (shown : B → Bool) (xs : List A) (a : Stamp) →
    shown_before at shown (map f xs) a ≡ shown_before (λ x. at (f x)) (λ x. shown (f x)) xs a
shown_before-map f at shown [] a = refl
shown_before-map f at shown (x ∷ xs) a = ap (λ n. cond (same_stamp (at (f x)).stamp a) 0 (cond (shown (f x)) 1 0 + n))
    (shown_before-map f at shown xs a)

pub shown_through-map : {A B : Type 0} (f : A → B) (at : B → Character) (shown : B → Bool) (xs : List A) (a : Stamp) →
    shown_through at shown (map f xs) a ≡ shown_through (λ x. at (f x)) (λ x. shown (f x)) xs a
shown_through-map f at shown [] a = refl
shown_through-map f at shown (x ∷ xs) a = ap (λ n. cond (shown (f x)) 1 0 + cond (same_stamp (at (f x)).stamp a) 0 n)
    (shown_through-map f at shown xs a)

pub stands_before-map : {A B : Type 0} (f : A → B) (at : B → Character) (xs : List A) (a b : Stamp) →
    stands_before at (map f xs) a b ≡ stands_before (λ x. at (f x)) xs a b
stands_before-map f at [] a b = refl
stands_before-map f at (x ∷ xs) a b =
    ap₂ (λ h r. cond (same_stamp (at (f x)).stamp a) (same_stamp a b || h) r)
    (list_any-map f (λ y. same_stamp (at y).stamp b) xs) (stands_before-map f at xs a b)
