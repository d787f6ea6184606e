-- The walk is the textbook's: the children of a place, newest first, each followed by its descendants; and no other
-- function is.
use Rattle.std.proofs.Common.{◌≡◌, ◌<◌, Bool, true, false, List, [], ◌∷◌, ◌++◌, Option, Some, refl, sym, ap, ◌∙◌, subst}
use Rattle.std.proofs.Common.{append_assoc, append-nil, reverse, filter, flat_map, lt_irrefl}
use Rattle.std.proofs.lemmas.List.{reverse-append}
use Rattle.std.proofs.lemmas.List.Concat.{flat_map-append}
use Rattle.std.proofs.lemmas.List.Elements.{filter-append}
use Rattle.std.specs.List.{AllByRecursion}
use Rattle.pad_model.specs.Stamp.{Stamp, newer}
use Rattle.pad_model.specs.Character.{Character}
use Rattle.pad_model.specs.Legal.{counter_of, IsTree}
use Rattle.pad_model.specs.Order.{same_parent, rising, children, walk_rising, walk}
use Rattle.pad_model.proofs.Newer.{split}
use Rattle.pad_model.proofs.Each.{each-append, each-both, each-left, each-right}
use Rattle.pad_model.proofs.Rising.{IsRising, IsRising-rising, rising-permutation}
use Rattle.pad_model.proofs.Members.{same_parent-true, rising_front, not_below, IsTree-permutation}

-- an item followed by its descendants, which f gives
below : {A : Type 0} → (A → Character) → (Option Stamp → List A) → A → List A
below at f c = c ∷ f (Some (at c).stamp)

last_child : {A : Type 0} (g : A → List A) (x : A) (l : List A) → flat_map g (reverse (x ∷ l)) ≡ flat_map g (reverse l)
    ++ g x
last_child g x l = ap (flat_map g) (reverse-append (x ∷ []) l) ∙ flat_map-append g (reverse l) (x ∷ [])
    ∙ ap (λ k. flat_map g (reverse l) ++ k) (append-nil (g x))

pub filter_none : {A : Type 0} (t : A → Bool) (w : List A) → AllByRecursion (λ x. t x ≡ false) w → filter t w ≡ []
filter_none t [] h = refl
filter_none t (x ∷ w) h = rw h.0 (filter_none t w h.1)

not_own_parent : {A : Type 0} (at : A → Character) (x : A) → counter_of (at x).parent < (at x).stamp.counter →
    same_parent (at x).parent (Some (at x).stamp) ≡ false
not_own_parent at x l =
    split (same_parent (at x).parent (Some (at x).stamp))
    (λ e. absurd (lt_irrefl (at x).stamp.counter (subst (λ p. counter_of p < (at x).stamp.counter)
    (same_parent-true (at x).parent (at x).stamp e) l))) (λ e. e)

-- no item up to x is a child of x
pub none_up_to : {A : Type 0} (at : A → Character) (w : List A) (x : A) (rest : List A) → IsRising at (w ++ x ∷ rest) →
    AllByRecursion (λ c. counter_of (at c).parent < (at c).stamp.counter) (w ++ x ∷ rest) →
    AllByRecursion (λ y. same_parent (at y).parent (Some (at x).stamp) ≡ false) (w ++ x ∷ [])
none_up_to at w x rest r l =
    each-append (λ y. same_parent (at y).parent (Some (at x).stamp) ≡ false) w (x ∷ [])
    (each-both (λ c. counter_of (at c).parent < (at c).stamp.counter) (λ y. newer (at x).stamp (at y).stamp ≡ true)
    (λ y. same_parent (at y).parent (Some (at x).stamp) ≡ false) (λ y k o. not_below at x y k o) w
    (each-left (λ c. counter_of (at c).parent < (at c).stamp.counter) w (x ∷ rest) l) (rising_front at w x rest r).0)
    (not_own_parent at x (each-right (λ c. counter_of (at c).parent < (at c).stamp.counter) w (x ∷ rest) l).0, tt)

-- leading items with another parent can be left out
walk_front : {A : Type 0} (at : A → Character) (w v : List A) (q : Option Stamp) →
    AllByRecursion (λ y. same_parent (at y).parent q ≡ false) w → walk_rising at (w ++ v) q ≡ walk_rising at v q
walk_front at [] v q h = refl
walk_front at (y ∷ w) v q h = rw h.0 (walk_front at w v q h.1)

-- f gives the walk if, for each item, agreeing on the items after it makes f agree below the item
children_walked : {A : Type 0} (at : A → Character) (f : Option Stamp → List A) (u w v : List A) → u ≡ w ++ v →
    ((w' : List A) (x : A) (rest : List A) → u ≡ w' ++ x ∷ rest →
    ((q : Option Stamp) → flat_map (below at f) (reverse (filter (λ c. same_parent (at c).parent q) rest))
    ≡ walk_rising at rest q) → f (Some (at x).stamp) ≡ walk_rising at rest (Some (at x).stamp)) →
    (p : Option Stamp) → flat_map (below at f) (reverse (filter (λ c. same_parent (at c).parent p) v))
    ≡ walk_rising at v p
unfolding below
children_walked at f u w [] e k p = refl
children_walked at f u w (x ∷ rest) e k p =
    let later : (q : Option Stamp) → flat_map (below at f) (reverse (filter (λ c. same_parent (at c).parent q) rest))
    ≡ walk_rising at rest q = children_walked at f u (w ++ x ∷ []) rest (e ∙ sym (append_assoc w (x ∷ []) rest)) k in
    split (same_parent (at x).parent p)
    (λ is. rw is (last_child (below at f) x (filter (λ c. same_parent (at c).parent p) rest)
    ∙ rw (later p, k w x rest e later) refl))
    (λ not. rw not (later p))

pub tree_law : {A : Type 0} (at : A → Character) (s : List A) → IsTree at s → (p : Option Stamp) →
    walk at s p ≡ flat_map (λ c. c ∷ walk at s (Some (at c).stamp)) (children at s p)
unfolding below
tree_law at s t p =
    let u = rising at s in
    let r = IsRising-rising at s t.distinct in
    let sorted = IsTree-permutation at s u (rising-permutation at s) t in
    sym (children_walked at (walk_rising at u) u [] u refl
    (λ w x rest e later. ap (λ l. walk_rising at l (Some (at x).stamp)) (e ∙ sym (append_assoc w (x ∷ []) rest))
    ∙ walk_front at (w ++ x ∷ []) rest (Some (at x).stamp) (none_up_to at w x rest (subst (IsRising at) e r)
    (subst (AllByRecursion (λ c. counter_of (at c).parent < (at c).stamp.counter)) e sorted.later)))
    p)

pub uniqueness_law : {A : Type 0} (at : A → Character) (s : List A) (f : Option Stamp → List A) → IsTree at s →
    ((p : Option Stamp) → f p ≡ flat_map (λ c. c ∷ f (Some (at c).stamp)) (children at s p)) → (p : Option Stamp) →
    f p ≡ walk at s p
unfolding below
uniqueness_law at s f t h p =
    let u = rising at s in
    let r = IsRising-rising at s t.distinct in
    let sorted = IsTree-permutation at s u (rising-permutation at s) t in
    h p ∙ children_walked at f u [] u refl
    (λ w x rest e later. h (Some (at x).stamp)
    ∙ ap (λ l. flat_map (below at f) (reverse l)) (ap (filter (λ c. same_parent (at c).parent (Some (at x).stamp)))
    (e ∙ sym (append_assoc w (x ∷ []) rest)) ∙ filter-append (λ c. same_parent (at c).parent (Some (at x).stamp))
    (w ++ x ∷ []) rest ∙ ap (λ l. l ++ filter (λ c. same_parent (at c).parent (Some (at x).stamp)) rest)
    (filter_none (λ c. same_parent (at c).parent (Some (at x).stamp)) (w ++ x ∷ [])
    (none_up_to at w x rest (subst (IsRising at) e r)
    (subst (AllByRecursion (λ c. counter_of (at c).parent < (at c).stamp.counter)) e sorted.later))))
    ∙ later (Some (at x).stamp))
    p
