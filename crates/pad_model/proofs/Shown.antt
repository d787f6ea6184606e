-- What a revision shows of authors, stamps and ranges can be read from the cells of a log.
use Rattle.std.proofs.Common.{◌≡◌, ℕ, ◌+◌, Bool, true, false, not, cond, List, [], ◌∷◌, refl, sym, ap, ap₂, ◌∙◌, subst}
use Rattle.std.proofs.Common.{map, filter, take, drop, leb, zero-add, Some}
use Rattle.std.proofs.lemmas.Bool.{both_ways}
use Rattle.std.proofs.lemmas.List.{drop-map, take-map}
use Rattle.std.proofs.lemmas.List.Sorted.{list_any-IsPermutation}
use Rattle.std.specs.List.{AllByRecursion, IsDistinct}
use Rattle.pad_model.specs.Stamp.{Stamp, same_stamp}
use Rattle.pad_model.specs.Character.{Character}
use Rattle.pad_model.specs.Cell.{Cell, character_of, shown_at, is_after, cells_at, runs_at, spans_at, before_at}
use Rattle.pad_model.specs.Cell.{through_at}
use Rattle.pad_model.specs.History.{births, dated, cells_of, IsHistory}
use Rattle.pad_model.specs.Laws.{itself}
use Rattle.pad_model.specs.Legal.{has_stamp, same_item, IsTree}
use Rattle.pad_model.specs.Operation.{characters_in}
use Rattle.pad_model.specs.Order.{order}
use Rattle.pad_model.specs.Visible.{is_erased, runs, runs_of, spans, spans_of, shown_before, shown_through}
use Rattle.pad_model.specs.Visible.{visible_before, visible_through}
use Rattle.pad_model.specs.declared.op.Op.{Op}
use Rattle.pad_model.proofs.Each.{each-both}
use Rattle.pad_model.proofs.Edited.{has_stamp-cells_of}
use Rattle.pad_model.proofs.Filters.{each-filter, dropped_absent}
use Rattle.pad_model.proofs.Newer.{split, same_stamp-true}
use Rattle.pad_model.proofs.Growth.{IsTree-history, IsHistory-take}
use Rattle.pad_model.proofs.History.{cells_at-visible, cells_by-order, cells_alive, dated-characters}
use Rattle.pad_model.proofs.Local.{has_parent-take}
use Rattle.pad_model.proofs.Maps.{IsTree-of_map, map-map, list_any-map, shown_before-map, shown_through-map}
use Rattle.pad_model.proofs.Members.{order-permutation}
use Rattle.pad_model.proofs.Rising.{distinct-permutation}
use Rattle.pad_model.proofs.Sets.{each_Has}

-- the author runs of a revision are those of its operations
pub runs_at-cells_of : (log : List Op) (k : ℕ) → IsHistory log → runs_at k (cells_of log)
    ≡ runs_of (characters_in (take k log))
runs_at-cells_of log k h =
    ap runs (sym (map-map character_of (λ c. c.author) (cells_at k (cells_of log))) ∙ ap (map (λ c. c.author))
    (cells_at-visible log k (IsTree-history log h) (IsTree-history (take k log) (IsHistory-take log k h))))

-- the spans of a stretch of a revision are those of its operations
pub spans_at-cells_of : (log : List Op) (k i n : ℕ) → IsHistory log → spans_at k (cells_of log) i n
    ≡ spans_of (characters_in (take k log)) i n
spans_at-cells_of log k i n h =
    ap spans
    (sym (map-map character_of (λ c. c.stamp) (take n (drop i (cells_at k (cells_of log)))))
    ∙ ap (map (λ c. c.stamp))
    (sym (take-map character_of n (drop i (cells_at k (cells_of log))))
    ∙ ap (take n) (sym (drop-map character_of i (cells_at k (cells_of log))))
    ∙ ap (λ l. take n (drop i l)) (cells_at-visible log k (IsTree-history log h)
    (IsTree-history (take k log) (IsHistory-take log k h)))))

-- what is left out of a count, and of the search for a stamp, changes neither
before_filter : {A : Type 0} (at : A → Character) (shown keep : A → Bool) (xs : List A) (a : Stamp) →
    AllByRecursion (λ x. keep x ≡ false → (shown x ≡ false) × (same_stamp (at x).stamp a ≡ false)) xs →
    shown_before at shown xs a ≡ shown_before at shown (filter keep xs) a
before_filter at shown keep [] a h = refl
before_filter at shown keep (x ∷ xs) a h =
    split (keep x)
    (λ e. rw e (ap (λ n. cond (same_stamp (at x).stamp a) 0 (cond (shown x) 1 0 + n))
    (before_filter at shown keep xs a h.1)))
    (λ e. let out = h.0 e in rw (e, out.0, out.1) (zero-add (shown_before at shown xs a)
    ∙ before_filter at shown keep xs a h.1))

through_filter : {A : Type 0} (at : A → Character) (shown keep : A → Bool) (xs : List A) (a : Stamp) →
    AllByRecursion (λ x. keep x ≡ false → (shown x ≡ false) × (same_stamp (at x).stamp a ≡ false)) xs →
    shown_through at shown xs a ≡ shown_through at shown (filter keep xs) a
through_filter at shown keep [] a h = refl
through_filter at shown keep (x ∷ xs) a h =
    split (keep x)
    (λ e. rw e (ap (λ n. cond (shown x) 1 0 + cond (same_stamp (at x).stamp a) 0 n)
    (through_filter at shown keep xs a h.1)))
    (λ e. let out = h.0 e in rw (e, out.0, out.1) (zero-add (shown_through at shown xs a)
    ∙ through_filter at shown keep xs a h.1))

before_same : {A : Type 0} (at : A → Character) (p q : A → Bool) (xs : List A) (a : Stamp) →
    AllByRecursion (λ x. p x ≡ q x) xs → shown_before at p xs a ≡ shown_before at q xs a
before_same at p q [] a h = refl
before_same at p q (x ∷ xs) a h = ap₂ (λ b n. cond (same_stamp (at x).stamp a) 0 (cond b 1 0 + n)) h.0
    (before_same at p q xs a h.1)

through_same : {A : Type 0} (at : A → Character) (p q : A → Bool) (xs : List A) (a : Stamp) →
    AllByRecursion (λ x. p x ≡ q x) xs → shown_through at p xs a ≡ shown_through at q xs a
through_same at p q [] a h = refl
through_same at p q (x ∷ xs) a h = ap₂ (λ b n. cond b 1 0 + cond (same_stamp (at x).stamp a) 0 n) h.0
    (through_same at p q xs a h.1)

-- whether a cell was born by a revision
born_by : ℕ → Cell → Bool
born_by k c = leb c.born k

each_passes_filter : {A : Type 0} (t : A → Bool) (xs : List A) → AllByRecursion (λ x. t x ≡ true) (filter t xs)
each_passes_filter t [] = tt
each_passes_filter t (x ∷ xs) = split (t x) (λ e. rw e (e, each_passes_filter t xs))
    (λ e. rw e (each_passes_filter t xs))

-- the cells that a revision does not have yet are not shown, and are not what a stamp of it names
later_cells : (log : List Op) (k : ℕ) (a : Stamp) → IsDistinct (same_item character_of) (cells_of log) →
    has_stamp character_of (filter (born_by k) (cells_of log)) a ≡ true →
    AllByRecursion (λ c. born_by k c ≡ false → (shown_at k c ≡ false) × (same_stamp c.stamp a ≡ false)) (cells_of log)
unfolding born_by
later_cells log k a d there =
    each_Has (λ c. born_by k c ≡ false → (shown_at k c ≡ false) × (same_stamp c.stamp a ≡ false)) (cells_of log)
    (λ c m later. (
      rw later refl,
      split (same_stamp c.stamp a)
          (λ e. absurd (both_ways _ (dropped_absent character_of (born_by k) (cells_of log) c d m later)
          (subst (λ s. has_stamp character_of (filter (born_by k) (cells_of log)) s ≡ true)
          (sym (same_stamp-true c.stamp a e)) there)))
          (λ e. e),
    ))

-- among the cells that a revision has, those that it shows are not erased by its operations
shown_cells : (log : List Op) (k : ℕ) → IsTree itself (characters_in log).inserted →
    AllByRecursion (λ c. shown_at k c ≡ not (is_erased (characters_in (take k log)).erased c.stamp))
    (filter (born_by k) (cells_of log))
unfolding born_by
shown_cells log k whole =
    each-both (λ c. leb c.born k ≡ true)
    (λ c. is_after k c.died ≡ not (is_erased (characters_in (take k log)).erased c.stamp))
    (λ c. shown_at k c ≡ not (is_erased (characters_in (take k log)).erased c.stamp))
    (λ c born alive. rw born alive) (filter (born_by k) (cells_of log)) (each_passes_filter (born_by k) (cells_of log))
    (each-filter (λ c. is_after k c.died ≡ not (is_erased (characters_in (take k log)).erased c.stamp)) (born_by k)
    (cells_of log) (cells_alive log k whole))

-- what the cells that a revision has say of a stamp is what its operations say
found_by : (log : List Op) (k : ℕ) (a : Stamp) → IsHistory log →
    has_stamp itself (characters_in (take k log)).inserted a ≡ true →
    has_stamp character_of (filter (born_by k) (cells_of log)) a ≡ true
unfolding born_by
found_by log k a h there =
    let whole = IsTree-history log h in
    let part = IsTree-history (take k log) (IsHistory-take log k h) in
    sym (list_any-map character_of (λ c. same_stamp c.stamp a) (filter (λ c. leb c.born k) (cells_of log)))
    ∙ ap (λ l. has_stamp itself l a) (cells_by-order log k whole part)
    ∙ sym (list_any-IsPermutation (λ c. same_stamp (itself c).stamp a) (characters_in (take k log)).inserted
    (order itself (characters_in (take k log)).inserted)
    (order-permutation itself (characters_in (take k log)).inserted part))
    ∙ there

in_log : (log : List Op) (k : ℕ) (a : Stamp) → IsHistory log → has_stamp itself (characters_in (take k log)).inserted a
    ≡ true → has_stamp character_of (cells_of log) a ≡ true
in_log log k a h there = has_stamp-cells_of log a (IsTree-history log h) ∙ has_parent-take log k (Some a) there

distinct_cells : (log : List Op) → IsHistory log → IsDistinct (same_item character_of) (cells_of log)
distinct_cells log h =
    let all = map (dated log) (births 1 log) in
    let tree = IsTree-of_map character_of itself all (subst (IsTree itself) (sym (dated-characters log))
    (IsTree-history log h)) in
    distinct-permutation character_of all (cells_of log) (order-permutation character_of all tree) tree.distinct

-- how many visible characters of a revision come before one that it has
pub before_at-cells_of : (log : List Op) (k : ℕ) (a : Stamp) → IsHistory log →
    has_stamp itself (characters_in (take k log)).inserted a ≡ true → before_at k (cells_of log) a
    ≡ Some (visible_before (characters_in (take k log)) a)
unfolding born_by
before_at-cells_of log k a h there =
    let whole = IsTree-history log h in
    let part = IsTree-history (take k log) (IsHistory-take log k h) in
    let set = characters_in (take k log) in
    let alive : Cell → Bool = λ c. not (is_erased set.erased c.stamp) in
    let by = filter (λ c. leb c.born k) (cells_of log) in
    rw (in_log log k a h there)
    (ap Some
    (before_filter character_of (shown_at k) (λ c. leb c.born k)
    (cells_of log) a (later_cells log k a (distinct_cells log h) (found_by log k a h there))
    ∙ before_same character_of (shown_at k) alive by a (shown_cells log k whole)
    ∙ sym (shown_before-map character_of itself (λ c. not (is_erased set.erased c.stamp)) by a)
    ∙ ap (λ l. shown_before itself (λ c. not (is_erased set.erased c.stamp)) l a) (cells_by-order log k whole part)))

-- and how many up to it, that one included
pub through_at-cells_of : (log : List Op) (k : ℕ) (a : Stamp) → IsHistory log →
    has_stamp itself (characters_in (take k log)).inserted a ≡ true → through_at k (cells_of log) a
    ≡ Some (visible_through (characters_in (take k log)) a)
unfolding born_by
through_at-cells_of log k a h there =
    let whole = IsTree-history log h in
    let part = IsTree-history (take k log) (IsHistory-take log k h) in
    let set = characters_in (take k log) in
    let alive : Cell → Bool = λ c. not (is_erased set.erased c.stamp) in
    let by = filter (λ c. leb c.born k) (cells_of log) in
    rw (in_log log k a h there)
    (ap Some
    (through_filter character_of (shown_at k) (λ c. leb c.born k)
    (cells_of log) a (later_cells log k a (distinct_cells log h) (found_by log k a h there))
    ∙ through_same character_of (shown_at k) alive by a (shown_cells log k whole)
    ∙ sym (shown_through-map character_of itself (λ c. not (is_erased set.erased c.stamp)) by a)
    ∙ ap (λ l. shown_through itself (λ c. not (is_erased set.erased c.stamp)) l a) (cells_by-order log k whole part)))
