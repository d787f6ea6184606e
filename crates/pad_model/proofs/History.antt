-- Old revisions can be read from the cells of a log by birth and death.
use Rattle.std.proofs.Common.{◌≡◌, ℕ, zero, suc, ◌+◌, ◌<◌, ◌≤◌, Bool, true, false, slice_get, option_map, not, ◌&&◌}
use Rattle.std.proofs.Common.{◌||◌, cond, leb, ltb, List, [], ◌∷◌, ◌++◌, length, Option, Some, None, refl, sym, ap, ap₂}
use Rattle.std.proofs.Common.{◌∙◌, subst, map, filter, flat_map, take, IsPermutation, arith, append-nil, append_assoc}
use Rattle.std.proofs.Common.{le-leb, le-ltb, lt-ltb, zero-add}
use Rattle.std.proofs.lemmas.Bool.{lt-leb}
use Rattle.std.proofs.lemmas.List.{map-append}
use Rattle.std.proofs.lemmas.List.Elements.{filter-append}
use Rattle.std.proofs.lemmas.List.Folds.{list_any-append}
use Rattle.std.specs.List.{AllByRecursion}
use Rattle.pad_model.specs.Stamp.{Stamp, same_stamp}
use Rattle.pad_model.specs.Character.{Character}
use Rattle.pad_model.specs.Cell.{Cell, born_at, character_of, is_after, cells_at, text_at, cell_stamp_at}
use Rattle.pad_model.specs.History.{births, death_in, dated, cells_of}
use Rattle.pad_model.specs.Laws.{itself}
use Rattle.pad_model.specs.Legal.{IsTree}
use Rattle.pad_model.specs.Operation.{inserted_by, erased_by, characters_in}
use Rattle.pad_model.specs.Order.{order}
use Rattle.pad_model.specs.Visible.{is_erased, visible, text_of, stamp_at}
use Rattle.std.proofs.lemmas.List.Sorted.{length_permutation}
use Rattle.pad_model.specs.declared.op.Op.{Op}
use Rattle.pad_model.proofs.Newer.{split}
use Rattle.pad_model.proofs.Each.{each-append, each-permutation}
use Rattle.pad_model.proofs.Maps.{map-map, filter-map, order-map, each-map, IsTree-of_map}
use Rattle.pad_model.proofs.Members.{order-permutation}
use Rattle.pad_model.proofs.Filters.{order-filter, each-filter}
use Rattle.pad_model.proofs.Tree.{filter_none}

take-nil : {A : Type 0} (n : ℕ) → take n (let none : List A = [] in none) ≡ []
take-nil zero = refl
take-nil (suc n) = refl

pub filter-same : {A : Type 0} (p q : A → Bool) (xs : List A) → AllByRecursion (λ x. p x ≡ q x) xs → filter p xs
    ≡ filter q xs
filter-same p q [] h = refl
filter-same p q (x ∷ xs) h = split (q x) (λ e. rw (h.0, e) (ap (λ l. x ∷ l) (filter-same p q xs h.1)))
    (λ e. rw (h.0, e) (filter-same p q xs h.1))

pub filter_all : {A : Type 0} (p : A → Bool) (xs : List A) → AllByRecursion (λ x. p x ≡ true) xs → filter p xs ≡ xs
filter_all p [] h = refl
filter_all p (x ∷ xs) h = rw h.0 (ap (λ l. x ∷ l) (filter_all p xs h.1))

pub filter-both : {A : Type 0} (p q : A → Bool) (xs : List A) → filter (λ x. p x && q x) xs ≡ filter q (filter p xs)
filter-both p q [] = refl
filter-both p q (x ∷ xs) =
    split (p x)
    (λ e. split (q x) (λ f. rw (e, f) (ap (λ l. x ∷ l) (filter-both p q xs))) (λ f. rw (e, f) (filter-both p q xs)))
    (λ e. rw e (filter-both p q xs))

-- the characters of the births are those inserted
pub births-characters : (rev : ℕ) (log : List Op) → map character_of (births rev log) ≡ flat_map inserted_by log
births-characters rev [] = refl
births-characters rev (op ∷ log) =
    map-append character_of (map (born_at rev) (inserted_by op)) (births (suc rev) log)
    ∙ ap₂ (λ a b. a ++ b) (map-map (born_at rev) character_of (inserted_by op)
    ∙ Rattle.std.proofs.Common.map-id (inserted_by op)) (births-characters (suc rev) log)

pub dated-characters : (log : List Op) → map character_of (map (dated log) (births 1 log))
    ≡ (characters_in log).inserted
dated-characters log = map-map (dated log) character_of (births 1 log) ∙ births-characters 1 log

born_all : (rev : ℕ) (cs : List Character) (P : Cell → Type 0) → ((c : Character) → P (born_at rev c)) →
    AllByRecursion P (map (born_at rev) cs)
born_all rev [] P h = tt
born_all rev (c ∷ cs) P h = (h c, born_all rev cs P h)

-- births come at their revision or later
births_late : (rev k : ℕ) (log : List Op) → k < rev → AllByRecursion (λ c. leb c.born k ≡ false) (births rev log)
births_late rev k [] h = tt
births_late rev k (op ∷ log) h =
    each-append (λ c. leb c.born k ≡ false) (map (born_at rev) (inserted_by op)) (births (suc rev) log)
    (born_all rev (inserted_by op) (λ c. leb c.born k ≡ false) (λ c. lt-leb rev k h))
    (births_late (suc rev) k log (omega arith))

-- what was born by a revision are the characters of the first operations
births_by : (i n : ℕ) (log : List Op) → map character_of (filter (λ c. leb c.born (i + n)) (births (suc i) log))
    ≡ flat_map inserted_by (take n log)
births_by i n [] = rw (take-nil n) refl
births_by i zero (op ∷ log) = rw (filter_none (λ c. leb c.born (i + zero)) (births (suc i) (op ∷ log))
    (births_late (suc i) (i + zero) (op ∷ log) (omega arith))) refl
births_by i (suc m) (op ∷ log) =
    ap (map character_of) (filter-append (λ c. leb c.born (i + suc m)) (map (born_at (suc i)) (inserted_by op))
    (births (suc (suc i)) log))
    ∙ map-append character_of (filter (λ c. leb c.born (i + suc m)) (map (born_at (suc i)) (inserted_by op)))
    (filter (λ c. leb c.born (i + suc m)) (births (suc (suc i)) log))
    ∙ ap₂ (λ a b. a ++ b)
    (ap (map character_of) (filter_all (λ c. leb c.born (i + suc m)) (map (born_at (suc i)) (inserted_by op))
    (born_all (suc i) (inserted_by op) (λ c. leb c.born (i + suc m) ≡ true)
    (λ c. le-leb (suc i) (i + suc m) (omega arith)))) ∙ map-map (born_at (suc i)) character_of (inserted_by op)
    ∙ Rattle.std.proofs.Common.map-id (inserted_by op))
    (ap (λ k. map character_of (filter (λ c. leb c.born k) (births (suc (suc i)) log)))
    (let e : i + suc m ≡ suc i + m = omega arith in e) ∙ births_by (suc i) m log)

death_late : (rev k : ℕ) (log : List Op) (s : Stamp) → k < rev → is_after k (death_in rev log s) ≡ true
death_late rev k [] s h = refl
death_late rev k (op ∷ log) s h =
    split (is_erased (erased_by op) s) (λ e. rw e (lt-ltb k rev h))
    (λ e. rw e (death_late (suc rev) k log s (omega arith)))

-- what lives after a revision is what the first operations did not erase
death_by : (i n : ℕ) (log : List Op) (s : Stamp) → is_after (i + n) (death_in (suc i) log s)
    ≡ not (is_erased (flat_map erased_by (take n log)) s)
death_by i n [] s = rw (take-nil n) refl
death_by i zero (op ∷ log) s = death_late (suc i) (i + zero) (op ∷ log) s (omega arith)
death_by i (suc m) (op ∷ log) s =
    split (is_erased (erased_by op) s)
    (λ e. rw (e, list_any-append (λ x. same_stamp x s) (erased_by op) (flat_map erased_by (take m log)), e)
    (le-ltb (i + suc m) (suc i) (omega arith)))
    (λ e. rw (e, list_any-append (λ x. same_stamp x s) (erased_by op) (flat_map erased_by (take m log)), e)
    (ap (λ k. is_after k (death_in (suc (suc i)) log s)) (let q : i + suc m ≡ suc i + m = omega arith in q)
    ∙ death_by (suc i) m log s))

births_to : (k : ℕ) (log : List Op) → map character_of (filter (λ c. leb c.born k) (births 1 log))
    ≡ flat_map inserted_by (take k log)
births_to k log = subst (λ n. map character_of (filter (λ c. leb c.born n) (births 1 log))
    ≡ flat_map inserted_by (take k log)) (zero-add k) (births_by 0 k log)

death_to : (k : ℕ) (log : List Op) (s : Stamp) → is_after k (death_in 1 log s)
    ≡ not (is_erased (flat_map erased_by (take k log)) s)
death_to k log s = subst (λ n. is_after n (death_in 1 log s) ≡ not (is_erased (flat_map erased_by (take k log)) s))
    (zero-add k) (death_by 0 k log s)

lives : ℕ → Cell → Bool
lives k c = is_after k c.died

born_by : ℕ → Cell → Bool
born_by k c = leb c.born k

-- the slider: what is born and not dead by a revision is what its operations show
pub cells_at-visible : (log : List Op) (k : ℕ) → IsTree itself (characters_in log).inserted →
    IsTree itself (characters_in (take k log)).inserted →
    map character_of (cells_at k (cells_of log)) ≡ visible (characters_in (take k log))
unfolding lives born_by
cells_at-visible log k whole part =
    let all = map (dated log) (births 1 log) in
    let old = filter (born_by k) all in
    let old_is : map character_of old ≡ (characters_in (take k log)).inserted =
    ap (map character_of) (filter-map (dated log) (born_by k) (births 1 log))
    ∙ map-map (dated log) character_of (filter (born_by k) (births 1 log)) ∙ births_to k log
    in
    let tree = IsTree-of_map character_of itself all (subst (IsTree itself) (sym (dated-characters log)) whole) in
    let old_tree = IsTree-of_map character_of itself old (subst (IsTree itself) (sym old_is) part) in
    let alive : AllByRecursion (λ c. lives k c ≡ not (is_erased (characters_in (take k log)).erased c.stamp))
    (order character_of old) =
    each-permutation (λ c. lives k c ≡ not (is_erased (characters_in (take k log)).erased c.stamp)) old
    (order character_of old) (order-permutation character_of old old_tree)
    (each-filter (λ c. lives k c ≡ not (is_erased (characters_in (take k log)).erased c.stamp)) (born_by k) all
    (each-map (dated log) (λ c. lives k c ≡ not (is_erased (characters_in (take k log)).erased c.stamp)) (births 1 log)
    (each_any (births 1 log) (λ c. death_to k log c.stamp))))
    in
    ap (map character_of) (filter-both (born_by k) (lives k) (order character_of all) ∙ ap (filter (lives k))
    (sym (order-filter character_of (born_by k) all tree old_tree)) ∙ filter-same (lives k)
    (λ c. not (is_erased (characters_in (take k log)).erased c.stamp)) (order character_of old) alive)
    ∙ sym (filter-map character_of (λ c. not (is_erased (characters_in (take k log)).erased c.stamp))
    (order character_of old))
    ∙ ap (filter (λ c. not (is_erased (characters_in (take k log)).erased c.stamp)))
    (sym (order-map character_of itself old) ∙ ap (order itself) old_is)
  where
    each_any : {A : Type 0} {P : A → Type 0} (xs : List A) → ((x : A) → P x) → AllByRecursion P xs
    each_any [] h = tt
    each_any (x ∷ xs) h = (h x, each_any xs h)

-- the cells that are born by a revision are, in place, the characters of the first operations
pub cells_by-order : (log : List Op) (k : ℕ) → IsTree itself (characters_in log).inserted →
    IsTree itself (characters_in (take k log)).inserted →
    map character_of (filter (λ c. leb c.born k) (cells_of log)) ≡ order itself (characters_in (take k log)).inserted
cells_by-order log k whole part =
    let all = map (dated log) (births 1 log) in
    let by : Cell → Bool = λ c. leb c.born k in
    let old = filter by all in
    let old_is : map character_of old ≡ (characters_in (take k log)).inserted =
    ap (map character_of) (filter-map (dated log) by (births 1 log))
    ∙ map-map (dated log) character_of (filter by (births 1 log)) ∙ births_to k log
    in
    let tree = IsTree-of_map character_of itself all (subst (IsTree itself) (sym (dated-characters log)) whole) in
    let old_tree = IsTree-of_map character_of itself old (subst (IsTree itself) (sym old_is) part) in
    ap (map character_of) (sym (order-filter character_of by all tree old_tree))
    ∙ sym (order-map character_of itself old) ∙ ap (order itself) old_is

-- a cell is alive after a revision exactly if the first operations do not erase it
pub cells_alive : (log : List Op) (k : ℕ) → IsTree itself (characters_in log).inserted →
    AllByRecursion (λ c. is_after k c.died ≡ not (is_erased (characters_in (take k log)).erased c.stamp)) (cells_of log)
cells_alive log k whole =
    let all = map (dated log) (births 1 log) in
    each-permutation (λ c. is_after k c.died ≡ not (is_erased (characters_in (take k log)).erased c.stamp)) all
    (cells_of log)
    (order-permutation character_of all (IsTree-of_map character_of itself all
    (subst (IsTree itself) (sym (dated-characters log)) whole)))
    (each-map (dated log) (λ c. is_after k c.died ≡ not (is_erased (characters_in (take k log)).erased c.stamp))
    (births 1 log) (each_any (births 1 log) (λ c. death_to k log c.stamp)))
  where
    each_any : {A : Type 0} {P : A → Type 0} (xs : List A) → ((x : A) → P x) → AllByRecursion P xs
    each_any [] h = tt
    each_any (x ∷ xs) h = (h x, each_any xs h)

pub map_keeps_length : {A B : Type 0} (f : A → B) (xs : List A) → length (map f xs) ≡ length xs
map_keeps_length f xs = simp Rattle.std.proofs.lemmas.List.length-map

-- what a log's cells show at a revision is what its first operations show
pub text_at-cells_of : (log : List Op) (k : ℕ) → IsTree itself (characters_in log).inserted →
    IsTree itself (characters_in (take k log)).inserted → text_at k (cells_of log)
    ≡ text_of (characters_in (take k log))
text_at-cells_of log k whole part =
    sym (map-map character_of (λ c. c.character) (cells_at k (cells_of log))) ∙ ap (map (λ c. c.character))
    (cells_at-visible log k whole part)

pub length-cells_at : (log : List Op) (k : ℕ) → IsTree itself (characters_in log).inserted →
    IsTree itself (characters_in (take k log)).inserted → length (cells_at k (cells_of log))
    ≡ length (visible (characters_in (take k log)))
length-cells_at log k whole part = sym (map_keeps_length character_of (cells_at k (cells_of log)))
    ∙ ap length (cells_at-visible log k whole part)

slice_get-map : {A B : Type 0} (f : A → B) (xs : List A) (i : ℕ) → slice_get (map f xs) i
    ≡ option_map f (slice_get xs i)
slice_get-map f [] i = refl
slice_get-map f (x ∷ xs) zero = refl
slice_get-map f (x ∷ xs) (suc i) = slice_get-map f xs i

stamp_of_option : (o : Option Cell) → option_map (λ c. c.stamp) (option_map character_of o)
    ≡ option_map (λ c. c.stamp) o
stamp_of_option None = refl
stamp_of_option (Some c) = refl

pub cell_stamp_at-cells_of : (log : List Op) (k i : ℕ) → IsTree itself (characters_in log).inserted →
    IsTree itself (characters_in (take k log)).inserted → cell_stamp_at k (cells_of log) i
    ≡ stamp_at (characters_in (take k log)) i
cell_stamp_at-cells_of log k i whole part =
    sym (stamp_of_option (slice_get (cells_at k (cells_of log)) i))
    ∙ ap (option_map (λ c. c.stamp)) (sym (slice_get-map character_of (cells_at k (cells_of log)) i)
    ∙ ap (λ l. slice_get l i) (cells_at-visible log k whole part))

-- the characters of a log's cells are those inserted, in preorder
pub cells_of-characters : (log : List Op) → map character_of (cells_of log) ≡ order itself (characters_in log).inserted
cells_of-characters log = sym (order-map character_of itself (map (dated log) (births 1 log))) ∙ ap (order itself)
    (dated-characters log)

pub cells_of-permutation : (log : List Op) → IsTree itself (characters_in log).inserted →
    IsPermutation (characters_in log).inserted (map character_of (cells_of log))
cells_of-permutation log t = subst (IsPermutation (characters_in log).inserted) (sym (cells_of-characters log))
    (order-permutation itself (characters_in log).inserted t)

pub length-cells_of : (log : List Op) → IsTree itself (characters_in log).inserted → length (cells_of log)
    ≡ length (characters_in log).inserted
length-cells_of log t = sym (map_keeps_length character_of (cells_of log))
    ∙ length_permutation (characters_in log).inserted (map character_of (cells_of log)) (cells_of-permutation log t)
