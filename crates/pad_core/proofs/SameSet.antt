-- What a log shows depends on the set of its operations alone.
use Rattle.std.proofs.Common.{◌≡◌, ◌⊎◌, inl, inr, Bool, true, not, List, [], ◌∷◌, ◌++◌, map, flat_map, filter, refl}
use Rattle.std.proofs.Common.{sym, ap, ap₂, ◌∙◌, subst, ◌-◌, arith}
use Rattle.std.proofs.Math.Path.{fun_ext}
use Rattle.std.proofs.lemmas.Bool.{or_cases, or_left, or_right, both_ways, false≢true}
use Rattle.std.proofs.lemmas.Bool.Decides.{nat_tests}
use Rattle.std.proofs.lemmas.List.Sorted.{IsPermutation-sym}
use Rattle.std.specs.List.{list_any}
use Rattle.pad_model.specs.Character.{Character}
use Rattle.pad_model.specs.Laws.{itself}
use Rattle.pad_model.specs.Log.{precedes, same_name}
use Rattle.pad_model.specs.Operation.{Characters, characters_in, inserted_by, erased_by}
use Rattle.pad_model.specs.Order.{order}
use Rattle.pad_model.specs.Stamp.{Stamp, same_stamp}
use Rattle.pad_model.specs.Visible.{Range, is_erased, visible, text_of, runs, runs_of, shown_before, shown_through}
use Rattle.pad_model.specs.Visible.{range_of}
use Rattle.pad_model.specs.declared.op.Op.{Op}
use Rattle.pad_model.specs.declared.op.OpName.{OpName}
use Rattle.pad_model.proofs.Growth.{IsTree-history}
use Rattle.pad_model.proofs.Newer.{split}
use Rattle.pad_model.proofs.Sets.{Has, Has-each, Has-permutation, Has-from_Contains, Contains-from_Has, set_law}
use Rattle.comments.specs.declared.show.Shown.{Shown}
use Rattle.pad_model.proofs.Names.{precedes-trans, precedes-same}
use Rattle.pad_core.specs.Comments.{resolves, by_name, comments_of}
use Rattle.pad_core.specs.Delivered.{IsDelivered}
use Rattle.pad_core.specs.Laws.{SameSetLaw}
use Rattle.pad_core.proofs.ByName.{AreByName, by_name-permutation, by_name_rises}
use Rattle.pad_core.proofs.Commented.{Bare, bare_part, bare_in, bare_of, shown_bare, flat_map-same, comments_of-bare}

-- what a list has, in front and at the end
pub has_front : {A : Type 0} (xs ys : List A) (c : A) → Has xs c → Has (xs ++ ys) c
has_front [] ys c h = absurd h
has_front (x ∷ xs) ys c (inl e) = inl e
has_front (x ∷ xs) ys c (inr h) = inr (has_front xs ys c h)

pub has_behind : {A : Type 0} (xs ys : List A) (c : A) → Has ys c → Has (xs ++ ys) c
has_behind [] ys c h = h
has_behind (x ∷ xs) ys c h = inr (has_behind xs ys c h)

pub has_either : {A : Type 0} (xs ys : List A) (c : A) → Has (xs ++ ys) c → Has xs c ⊎ Has ys c
has_either [] ys c h = inr h
has_either (x ∷ xs) ys c (inl e) = inl (inl e)
has_either (x ∷ xs) ys c (inr h) = either (has_either xs ys c h)
  where
    either : Has xs c ⊎ Has ys c → ((x ≡ c) ⊎ Has xs c) ⊎ Has ys c
    either (inl k) = inl (inr k)
    either (inr k) = inr k

-- what a list's items make, the same items make
pub made_from : {A B : Type 0} (f : A → List B) (xs : List A) (x : A) (c : B) → Has xs x → Has (f x) c →
    Has (flat_map f xs) c
made_from f [] x c h k = absurd h
made_from f (y ∷ xs) x c (inl e) k = has_front (f y) (flat_map f xs) c (subst (λ z. Has (f z) c) (sym e) k)
made_from f (y ∷ xs) x c (inr h) k = has_behind (f y) (flat_map f xs) c (made_from f xs x c h k)

pub made_by : {A B : Type 0} (f : A → List B) (xs : List A) (c : B) → Has (flat_map f xs) c →
    (x : A) × (Has xs x × Has (f x) c)
made_by f [] c h = absurd h
made_by f (y ∷ xs) c h = either (has_either (f y) (flat_map f xs) c h) (λ k. made_by f xs c k)
  where
    either : Has (f y) c ⊎ Has (flat_map f xs) c → (Has (flat_map f xs) c → (x : _) × (Has xs x × Has (f x) c)) →
        (x : _) × (Has (y ∷ xs) x × Has (f x) c)
    either (inl k) rest = (y, (inl refl, k))
    either (inr k) rest = let found = rest k in (found.0, (inr found.1.0, found.1.1))

pub made_alike : {A B : Type 0} (f : A → List B) (xs ys : List A) → ((x : A) → Has xs x → Has ys x) → (c : B) →
    Has (flat_map f xs) c → Has (flat_map f ys) c
made_alike f xs ys into c h = let found = made_by f xs c h in
    made_from f ys found.0 c (into found.0 found.1.0) found.1.1

-- lists of the same items pass a test alike
pub passes_from : {A : Type 0} (t : A → Bool) (xs : List A) (x : A) → Has xs x → t x ≡ true → list_any t xs ≡ true
passes_from t [] x h e = absurd h
passes_from t (y ∷ xs) x (inl is) e = or_left (t y) (list_any t xs) (ap t is ∙ e)
passes_from t (y ∷ xs) x (inr h) e = or_right (t y) (list_any t xs) (passes_from t xs x h e)

pub passes_by : {A : Type 0} (t : A → Bool) (xs : List A) → list_any t xs ≡ true → (x : A) × (Has xs x × (t x ≡ true))
passes_by t [] e = absurd (false≢true e)
passes_by t (y ∷ xs) e = either (or_cases (t y) (list_any t xs) e) (λ k. passes_by t xs k)
  where
    either : (t y ≡ true) ⊎ (list_any t xs ≡ true) → (list_any t xs ≡ true → (x : _) × (Has xs x × (t x ≡ true))) →
        (x : _) × (Has (y ∷ xs) x × (t x ≡ true))
    either (inl here) rest = (y, (inl refl, here))
    either (inr later) rest = let found = rest later in (found.0, (inr found.1.0, found.1.1))

pub passes_into : {A : Type 0} (t : A → Bool) (xs ys : List A) → ((x : A) → Has xs x → Has ys x) → list_any t xs
    ≡ true → list_any t ys ≡ true
passes_into t xs ys into e = let found = passes_by t xs e in passes_from t ys found.0 (into found.0 found.1.0) found.1.1

any_alike : {A : Type 0} (t : A → Bool) (xs ys : List A) → ((x : A) → Has xs x → Has ys x) →
    ((x : A) → Has ys x → Has xs x) → list_any t xs ≡ list_any t ys
any_alike t xs ys into back =
    split (list_any t xs)
    (λ yes. yes ∙ sym (passes_into t xs ys into yes))
    (λ no. split (list_any t ys) (λ yes. absurd (both_ways _ no (passes_into t ys xs back yes)))
    (λ none. no ∙ sym none))

-- no name is before itself
same_itself : (name : OpName) → same_name name name ≡ true
same_itself name = grind (arith, nat_tests)

before_itself : (name : OpName) → precedes name name ≡ true → ⊥
before_itself name e = both_ways _ (precedes-same name name (same_itself name)) e

-- two lists whose names rise and that have the same operations are equal
tail_has : (x : Op) (xs ys : List Op) → AreByName (x ∷ xs) → ((c : Op) → Has (x ∷ xs) c → Has (x ∷ ys) c) → (c : Op) →
    Has xs c → Has ys c
tail_has x xs ys rise into c h = either (into c (inr h))
  where
    either : (x ≡ c) ⊎ Has ys c → Has ys c
    either (inl e) = absurd (before_itself x.name (Has-each (λ y. precedes x.name y.name ≡ true) xs x rise.0
        (subst (Has xs) (sym e) h)))
    either (inr k) = k

first_same : (x y : Op) (xs ys : List Op) → AreByName (x ∷ xs) → AreByName (y ∷ ys) → Has (y ∷ ys) x → Has (x ∷ xs) y →
    x ≡ y
first_same x y xs ys rise other (inl e) k = sym e
first_same x y xs ys rise other (inr h) (inl e) = e
first_same x y xs ys rise other (inr h) (inr k) =
    absurd (before_itself x.name (precedes-trans x.name y.name x.name
    (Has-each (λ z. precedes x.name z.name ≡ true) xs y rise.0 k)
    (Has-each (λ z. precedes y.name z.name ≡ true) ys x other.0 h)))

by_name_unique : (xs ys : List Op) → AreByName xs → AreByName ys → ((c : Op) → Has xs c → Has ys c) →
    ((c : Op) → Has ys c → Has xs c) → xs ≡ ys
by_name_unique [] [] rise other into back = refl
by_name_unique [] (y ∷ ys) rise other into back = absurd (back y (inl refl))
by_name_unique (x ∷ xs) [] rise other into back = absurd (into x (inl refl))
by_name_unique (x ∷ xs) (y ∷ ys) rise other into back =
    let same = first_same x y xs ys rise other (into x (inl refl)) (back y (inl refl)) in
    let inside : (c : Op) → Has xs c → Has ys c =
    tail_has x xs ys rise (λ c m. subst (λ z. Has (z ∷ ys) c) (sym same) (into c m)) in
    let outside : (c : Op) → Has ys c → Has xs c =
    tail_has y ys xs other (λ c m. subst (λ z. Has (z ∷ xs) c) same (back c m)) in
    ap₂ (λ (z : Op) l. z ∷ l) same (by_name_unique xs ys rise.1 other.1 inside outside)

-- the same operations by name are one list
pub by_name-alike : (log other : List Op) → IsDelivered log → IsDelivered other →
    ((op : Op) → Has log op → Has other op) → ((op : Op) → Has other op → Has log op) → by_name log ≡ by_name other
by_name-alike log other d e into back =
    let p = by_name-permutation log in
    let q = by_name-permutation other in
    by_name_unique (by_name log) (by_name other) (by_name_rises log d.history d.numbered)
    (by_name_rises other e.history e.numbered)
    (λ op h. Has-permutation other (by_name other) op q
    (into op (Has-permutation (by_name log) log op (IsPermutation-sym log (by_name log) p) h)))
    (λ op h. Has-permutation log (by_name log) op p
    (back op (Has-permutation (by_name other) other op (IsPermutation-sym other (by_name other) q) h)))

-- they insert the same, and erase the same
order-alike : (log other : List Op) → IsDelivered log → IsDelivered other → ((op : Op) → Has log op → Has other op) →
    ((op : Op) → Has other op → Has log op) →
    order itself (characters_in log).inserted ≡ order itself (characters_in other).inserted
order-alike log other d e into back =
    set_law itself (characters_in log).inserted (characters_in other).inserted (IsTree-history log d.history).distinct
    (IsTree-history other e.history).distinct
    (made_alike inserted_by log other into) (made_alike inserted_by other log back)

erased-alike : (log other : List Op) → ((op : Op) → Has log op → Has other op) →
    ((op : Op) → Has other op → Has log op) → is_erased (characters_in log).erased
    ≡ is_erased (characters_in other).erased
erased-alike log other into back = fun_ext (λ s. any_alike (λ e. same_stamp e s) (characters_in log).erased
    (characters_in other).erased (made_alike erased_by log other into) (made_alike erased_by other log back))

-- so the same is visible, in the same ranges
visible-alike : (set other : Characters) → order itself set.inserted ≡ order itself other.inserted →
    is_erased set.erased ≡ is_erased other.erased → visible set ≡ visible other
visible-alike set other one gone = ap₂ (λ (xs : List Character) (t : Stamp → Bool). filter (λ c. not (t c.stamp)) xs)
    one gone

range-alike : (set other : Characters) (a b : Stamp) → order itself set.inserted ≡ order itself other.inserted →
    is_erased set.erased ≡ is_erased other.erased → range_of set a b ≡ range_of other a b
range-alike set other a b one gone = ap₂ (range_in a b) one gone
  where
    range_in : Stamp → Stamp → List Character → (Stamp → Bool) → Range
    range_in a b xs t =
        let before = shown_before itself (λ c. not (t c.stamp)) xs a in
        record { at = before; len = shown_through itself (λ c. not (t c.stamp)) xs b - before }

bare-alike : (log other : List Op) → ((op : Op) → Has log op → Has other op) → ((op : Op) → Has other op → Has log op) →
    by_name log ≡ by_name other → bare_of log ≡ bare_of other
bare-alike log other into back named =
    flat_map-same (bare_in log) (bare_in other) (by_name log) (λ op. ap (λ b. flat_map (bare_part b op) op.parts)
    (any_alike (resolves op.name) log other into back))
    ∙ ap (flat_map (bare_in other)) named

-- and the same comments
pub same_set : (log other : List Op) → IsDelivered log → IsDelivered other → ((op : Op) → Has log op → Has other op) →
    ((op : Op) → Has other op → Has log op) →
    (text_of (characters_in log) ≡ text_of (characters_in other))
    × (runs_of (characters_in log) ≡ runs_of (characters_in other)) × (comments_of log ≡ comments_of other)
same_set log other d e into back =
    let set = characters_in log in
    let told = characters_in other in
    let one = order-alike log other d e into back in
    let gone = erased-alike log other into back in
    let seen = visible-alike set told one gone in (
      ap (map (λ c. c.character)) seen,
      ap (λ l. runs (map (λ c. c.author) l)) seen,
      comments_of-bare log
          ∙ ap (map (shown_bare set)) (bare-alike log other into back (by_name-alike log other d e into back))
          ∙ ap (λ show. map show (bare_of other))
          (fun_ext (λ x. shown-alike set told x (range-alike set told x.first x.last one gone)))
          ∙ sym (comments_of-bare other),
    )
  where
    shown-alike : (set told : Characters) (x : Bare) → range_of set x.first x.last ≡ range_of told x.first x.last →
        shown_bare set x ≡ shown_bare told x
    shown-alike set told x same = ap (λ (range : Range).
        let s : Shown = record { name = x.name; author = x.author; text = x.text; at = range.at; len = range.len; resolved = x.resolved } in s) same

-- the same if membership is given by containment
pub same_members : SameSetLaw
same_members log other d e h = same_set log other d e
    (λ op m. Has-from_Contains other op ((h op).0 (Contains-from_Has log op m)))
    (λ op m. Has-from_Contains log op ((h op).1 (Contains-from_Has other op m)))
