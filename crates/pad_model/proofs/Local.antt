-- What a local insertion adds to a history.
use Rattle.std.proofs.Common.{◌≡◌, ℕ, zero, suc, ◌<◌, ◌≤◌, inl, inr, Bool, true, not, ◌&&◌, ◌||◌, eqb, ltb, List, []}
use Rattle.std.proofs.Common.{◌∷◌, Option, Some, None, refl, sym, ap, ap₂, ◌∙◌, subst, map, fold, flat_map, take, drop}
use Rattle.std.proofs.Common.{max, IsPermutation, arith, lt-ltb, slice_get, option_map, take-append-drop, le_antisymm}
use Rattle.std.proofs.lemmas.Bool.{and_from, both_ways, or_right}
use Rattle.std.proofs.lemmas.List.{map-append}
use Rattle.std.proofs.lemmas.List.Concat.{flat_map-append}
use Rattle.std.proofs.lemmas.List.Folds.{list_any-append}
use Rattle.std.proofs.lemmas.List.Sorted.{IsPermutation-sym}
use Rattle.std.specs.List.{AllByRecursion, list_all}
use Rattle.pad_model.specs.Stamp.{Stamp}
use Rattle.pad_model.specs.Character.{Character}
use Rattle.pad_model.specs.Cell.{character_of, clock_of}
use Rattle.pad_model.specs.History.{cells_of, clock_of_characters}
use Rattle.pad_model.specs.Laws.{itself}
use Rattle.pad_model.specs.Legal.{has_stamp, has_parent, counter_of, IsTree}
use Rattle.pad_model.specs.Log.{run_may_join}
use Rattle.pad_model.specs.Operation.{Characters, inserted_by, characters_in}
use Rattle.pad_model.specs.Order.{order}
use Rattle.pad_model.specs.Visible.{is_erased, visible, stamp_at}
use Rattle.pad_model.specs.declared.op.Op.{Op}
use Rattle.pad_model.proofs.Newer.{split, same_stamp-true}
use Rattle.pad_model.proofs.Each.{each-imply, each-permutation}
use Rattle.pad_model.proofs.Cells.{each_passes}
use Rattle.pad_model.proofs.Filters.{Has-filter}
use Rattle.pad_model.proofs.History.{cells_of-permutation}
use Rattle.pad_model.proofs.Maps.{run_may_join-map}
use Rattle.pad_model.proofs.Members.{order-permutation, has_parent-permutation}
use Rattle.pad_model.proofs.Sets.{Has, Has-permutation, has_stamp_of, set_law}

-- tests of all items, in any order
pub all_pass : {A : Type 0} (t : A → Bool) (xs : List A) → AllByRecursion (λ x. t x ≡ true) xs → list_all t xs ≡ true
all_pass t [] h = refl
all_pass t (x ∷ xs) h = and_from _ _ h.0 (all_pass t xs h.1)

pub list_all-permutation : {A : Type 0} (t : A → Bool) (xs ys : List A) → IsPermutation xs ys → list_all t xs
    ≡ list_all t ys
list_all-permutation t xs ys p =
    split (list_all t xs)
    (λ e. e ∙ sym (all_pass t ys (each-permutation (λ x. t x ≡ true) xs ys p (each_passes t xs e))))
    (λ e. split (list_all t ys)
    (λ f. absurd (both_ways _ e (all_pass t xs (each-permutation (λ x. t x ≡ true) ys xs (IsPermutation-sym xs ys p)
    (each_passes t ys f)))))
    (λ f. e ∙ sym f))

pub run_may_join-permutation : {A : Type 0} (at : A → Character) (xs ys : List A) (first : Stamp) (p : Option Stamp) →
    IsPermutation xs ys → run_may_join at xs first p ≡ run_may_join at ys first p
run_may_join-permutation at xs ys first p h =
    ap₂ (λ a b. a && ltb (counter_of p) first.counter && b) (has_parent-permutation at xs ys p h)
    (list_all-permutation (λ x. not (eqb (at x).stamp.replica first.replica) || ltb (at x).stamp.counter first.counter)
    xs ys h)

-- the same runs may join a log's cells and its characters
pub run_may_join-cells_of : (log : List Op) (first : Stamp) (p : Option Stamp) →
    IsTree itself (characters_in log).inserted →
    run_may_join character_of (cells_of log) first p ≡ run_may_join itself (characters_in log).inserted first p
run_may_join-cells_of log first p t =
    sym (run_may_join-map character_of itself (cells_of log) first p)
    ∙ sym (run_may_join-permutation itself (characters_in log).inserted (map character_of (cells_of log)) first p
    (cells_of-permutation log t))

-- the greatest counter is an upper bound, and the least one
pub greatest_least : {A : Type 0} (at : A → Character) (xs : List A) (a b : ℕ) → a ≤ b →
    AllByRecursion (λ x. (at x).stamp.counter ≤ b) xs → fold (λ most x. max most (at x).stamp.counter) a xs ≤ b
greatest_least at [] a b h all = h
greatest_least at (x ∷ xs) a b h all = greatest_least at xs (max a (at x).stamp.counter) b (let l : (at x).stamp.counter
    ≤ b = all.0 in omega arith) all.1

greatest_start : {A : Type 0} (at : A → Character) (xs : List A) (a : ℕ) →
    a ≤ fold (λ most x. max most (at x).stamp.counter) a xs
greatest_start at [] a = omega arith
greatest_start at (x ∷ xs) a = omega (arith, greatest_start at xs (max a (at x).stamp.counter))

pub greatest_bound : {A : Type 0} (at : A → Character) (xs : List A) (a : ℕ) →
    AllByRecursion (λ x. (at x).stamp.counter ≤ fold (λ most x. max most (at x).stamp.counter) a xs) xs
greatest_bound at [] a = tt
greatest_bound at (x ∷ xs) a = (
  omega (arith, greatest_start at xs (max a (at x).stamp.counter)),
  greatest_bound at xs (max a (at x).stamp.counter),
)

greatest-permutation : {A : Type 0} (at : A → Character) (xs ys : List A) → IsPermutation xs ys →
    fold (λ most x. max most (at x).stamp.counter) 0 xs ≤ fold (λ most x. max most (at x).stamp.counter) 0 ys
greatest-permutation at xs ys p =
    greatest_least at xs 0 (fold (λ most x. max most (at x).stamp.counter) 0 ys) (omega arith)
    (each-permutation (λ x. (at x).stamp.counter ≤ fold (λ most x. max most (at x).stamp.counter) 0 ys) ys xs
    (IsPermutation-sym xs ys p) (greatest_bound at ys 0))

-- the clock of a log's cells is that of its characters
pub clock_of-cells_of : (log : List Op) → IsTree itself (characters_in log).inserted → clock_of (cells_of log)
    ≡ clock_of_characters (characters_in log).inserted
clock_of-cells_of log t =
    let p = cells_of-permutation log t in
    let seen : fold (λ most x. max most x.stamp.counter) 0 (map character_of (cells_of log)) ≡ clock_of (cells_of log) =
    Rattle.std.proofs.lemmas.List.Folds.fold-map (λ most x. max most x.stamp.counter) character_of 0 (cells_of log) in
    sym seen ∙ le_antisymm (greatest-permutation itself (map character_of (cells_of log)) (characters_in log).inserted
    (IsPermutation-sym _ _ p)) (greatest-permutation itself (characters_in log).inserted
    (map character_of (cells_of log)) p)

-- a stamp that a set shows is one of its characters
pub stamp_at-inserted : (set : Characters) (i : ℕ) (s : Stamp) → IsTree itself set.inserted → stamp_at set i ≡ Some s →
    has_stamp itself set.inserted s ≡ true
stamp_at-inserted set i s t h =
    let found = shown_has (visible set) i s h in
    let kept = Has-filter (λ c. not (is_erased set.erased c.stamp)) (order itself set.inserted) found.0 found.1.0 in
    let there = Has-permutation (order itself set.inserted) set.inserted found.0
    (IsPermutation-sym set.inserted (order itself set.inserted) (order-permutation itself set.inserted t)) kept.0 in
    subst (λ z. has_stamp itself set.inserted z ≡ true) found.1.1 (has_stamp_of itself set.inserted found.0 there)
  where
    shown_has : (xs : List Character) (i : ℕ) (s : Stamp) → option_map (λ c. c.stamp) (slice_get xs i) ≡ Some s →
        (c : Character) × (Has xs c × (c.stamp ≡ s))
    shown_has [] i s h = absurd (cc)
    shown_has (x ∷ xs) zero s h = (x, (inl refl, cc))
    shown_has (x ∷ xs) (suc i) s h = let more = shown_has xs i s h in (more.0, (inr more.1.0, more.1.1))

-- what the first operations insert, the log inserts
pub has_parent-take : (log : List Op) (k : ℕ) (p : Option Stamp) →
    has_parent itself (characters_in (take k log)).inserted p ≡ true → has_parent itself (characters_in log).inserted p
    ≡ true
has_parent-take log k p h =
    subst (λ l. has_parent itself (characters_in l).inserted p ≡ true) (take-append-drop k log)
    (subst (λ l. has_parent itself l p ≡ true) (sym (flat_map-append inserted_by (take k log) (drop k log)))
    (Rattle.pad_model.proofs.Runs.has_parent-append itself (characters_in (take k log)).inserted
    (flat_map inserted_by (drop k log)) p h))

counters_below : (xs : List Character) (p : Option Stamp) (most : ℕ) → AllByRecursion (λ x. x.stamp.counter ≤ most) xs →
    has_parent itself xs p ≡ true → counter_of p ≤ most
counters_below xs None most h e = omega arith
counters_below xs (Some s) most h e =
    let found = Rattle.pad_model.proofs.Sets.item_of_stamp itself xs s e in
    let bound : found.0.stamp.counter ≤ most = Rattle.pad_model.proofs.Sets.Has-each (λ x. x.stamp.counter ≤ most) xs
    found.0 h found.1.0 in
    let same : found.0.stamp.counter ≡ s.counter = ap (λ z. z.counter) (same_stamp-true found.0.stamp s found.1.1) in
    omega arith

-- a run newer than all may join after any character
pub newest_joins : (xs : List Character) (first : Stamp) (p : Option Stamp) → clock_of_characters xs < first.counter →
    has_parent itself xs p ≡ true → run_may_join itself xs first p ≡ true
newest_joins xs first p h e =
    let bound = greatest_bound itself xs 0 in
    and_from _ _ (and_from _ _ e (lt-ltb (counter_of p) first.counter
    (omega (arith, counters_below xs p (clock_of_characters xs) bound e))))
    (all_pass (λ x. not (eqb x.stamp.replica first.replica) || ltb x.stamp.counter first.counter) xs
    (each-imply (λ x. x.stamp.counter ≤ clock_of_characters xs)
    (λ x. (not (eqb x.stamp.replica first.replica) || ltb x.stamp.counter first.counter) ≡ true)
    (λ x l. or_right _ _ (lt-ltb x.stamp.counter first.counter (omega arith))) xs bound))
