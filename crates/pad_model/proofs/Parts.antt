-- The runs of one operation's parts join the cells one after another.
use Rattle.std.proofs.Common.{◌≡◌, ℕ, zero, suc, ◌+◌, ◌<◌, ◌≤◌, Bool, true, false, not, ◌&&◌, ◌||◌, cond, eqb, leb, ltb}
use Rattle.std.proofs.Common.{List, [], ◌∷◌, ◌++◌, length, Option, Some, None, refl, sym, ap, ap₂, ◌∙◌, subst, map}
use Rattle.std.proofs.Common.{flat_map, IsPermutation, arith, append-nil, append_assoc, leb-true, lt-ltb, ne_eqb}
use Rattle.std.proofs.lemmas.Bool.{and_parts, and_from, or_right, false≢true}
use Rattle.std.proofs.lemmas.List.{map-append}
use Rattle.std.proofs.lemmas.List.Sorted.{IsPermutation-append_left}
use Rattle.std.specs.List.{AllByRecursion, list_all}
use Rattle.pad_model.specs.Stamp.{Stamp, same_stamp}
use Rattle.pad_model.specs.Character.{Character, next, run_characters}
use Rattle.pad_model.specs.Cell.{Cell, born_at, character_of, new_cells, with_run, erased_at, without_spans, IsInOrder}
use Rattle.pad_model.specs.Checked.{are_parts, counters_rise}
use Rattle.pad_model.specs.Laws.{itself}
use Rattle.pad_model.specs.Legal.{has_stamp, has_parent, counter_of, IsTree, RunMayJoin}
use Rattle.pad_model.specs.Log.{run_may_join, all_differ}
use Rattle.pad_model.specs.Operation.{span_stamps}
use Rattle.pad_model.specs.Order.{order}
use Rattle.pad_model.specs.Parts.{AllJoin, part_fits, runs_in, spans_in, inserts_in, parts_fit, with_all, with_parts}
use Rattle.pad_model.specs.declared.who.Author.{Author}
use Rattle.pad_model.specs.declared.op.Run.{Run}
use Rattle.pad_model.specs.declared.op.Span.{Span}
use Rattle.pad_model.specs.declared.op.Part.{Part}
use Rattle.pad_model.specs.declared.op.Part.TheVariants.{Insert, Delete, Comment, Resolve}
use Rattle.pad_model.proofs.Newer.{split}
use Rattle.pad_model.proofs.Each.{each-append, each-imply, none_found}
use Rattle.pad_model.proofs.Cells.{RunMayJoin-from_test, IsRun-new_cells}
use Rattle.pad_model.proofs.Erase.{erased_at-character, IsInOrder-without}
use Rattle.pad_model.proofs.Local.{all_pass, run_may_join-permutation}
use Rattle.pad_model.proofs.Maps.{list_any-map, run_may_join-map}
use Rattle.pad_model.proofs.Members.{order-permutation}
use Rattle.pad_model.proofs.Pushed.{order-permuted}
use Rattle.pad_model.proofs.Runs.{IsTree-run, has_parent-append}

-- a run that may join passes the test
pub RunMayJoin-to_test : {A : Type 0} (at : A → Character) (items : List A) (first : Stamp) (p : Option Stamp) →
    RunMayJoin at items first p → run_may_join at items first p ≡ true
RunMayJoin-to_test at items first p j =
    and_from _ _ (and_from _ _ j.rooted (lt-ltb (counter_of p) first.counter j.later))
    (all_pass (λ x. not (eqb (at x).stamp.replica first.replica) || ltb (at x).stamp.counter first.counter) items
    (each-imply (λ x. (at x).stamp.replica ≡ first.replica → (at x).stamp.counter < first.counter)
    (λ x. (not (eqb (at x).stamp.replica first.replica) || ltb (at x).stamp.counter first.counter) ≡ true)
    (λ x k. split (eqb (at x).stamp.replica first.replica)
    (λ e. or_right _ _ (lt-ltb (at x).stamp.counter first.counter
    (k (Rattle.std.proofs.Common.eqb-true (at x).stamp.replica first.replica e))))
    (λ e. rw e refl)) items j.above))

-- a run that may join some items may join more of them whose counters are below its own
pub RunMayJoin-more : {A : Type 0} (at : A → Character) (items more : List A) (floor : ℕ) (first : Stamp)
    (p : Option Stamp) → RunMayJoin at items first p →
    AllByRecursion (λ x. (at x).stamp.counter < floor) more → floor ≤ first.counter →
    RunMayJoin at (items ++ more) first p
RunMayJoin-more at items more floor first p j below h = record {
  above = each-append (λ x. (at x).stamp.replica ≡ first.replica → (at x).stamp.counter < first.counter) items more
      j.above
      (each-imply (λ x. (at x).stamp.counter < floor) (λ x. (at x).stamp.replica ≡ first.replica → (at x).stamp.counter
      < first.counter) (λ x l e. omega arith) more below);
  rooted = has_parent-append at items more p j.rooted;
  later = j.later;
}

-- the counters of new cells are below what follows their run
new_below : (rev : ℕ) (first : Stamp) (p : Option Stamp) (text : List ℕ) (author : Author) (most : ℕ) → first.counter
    + length text ≤ most → AllByRecursion (λ c. c.stamp.counter < most)
    (map (born_at rev) (run_characters first p text author))
new_below rev first p [] author most h = tt
new_below rev first p (c ∷ text) author most h =
    (omega arith, new_below rev (next first) (Some first) text author most (omega arith))

-- a run goes to the same place among cells in preorder as among the same cells in any order
with_run-order : (rev : ℕ) (run : Run) (author : Author) (cells : List Cell) → IsTree character_of cells →
    IsTree character_of (cells ++ new_cells rev run author) →
    with_run rev run author (order character_of cells) ≡ order character_of (cells ++ new_cells rev run author)
with_run-order rev run author cells t more =
    sym (order-permuted character_of (cells ++ new_cells rev run author)
    (order character_of cells ++ new_cells rev run author)
    (IsPermutation-append_left (new_cells rev run author) cells (order character_of cells)
    (order-permutation character_of cells t)) more)

-- runs that fit the cells before the operation join them one after another, and together they are in preorder
pub runs_join : (rev : ℕ) (author : Author) (base mine : List Cell) (floor : ℕ) (parts : List Part) →
    IsTree character_of (base ++ mine) →
    AllByRecursion (λ c. c.stamp.counter < floor) mine → counters_rise floor parts ≡ true →
    list_all (part_fits character_of base) parts ≡ true →
    AllJoin rev author (order character_of (base ++ mine)) (runs_in parts)
    × (with_all rev author (order character_of (base ++ mine)) (runs_in parts)
    ≡ order character_of (base ++ (mine ++ map (born_at rev) (inserts_in author parts))))
runs_join rev author base mine floor [] t below rise fit =
    (tt, ap (λ l. order character_of (base ++ l)) (sym (append-nil mine)))
runs_join rev author base mine floor (Insert run ∷ parts) t below rise fit =
    let risen = and_parts _ _ rise in
    let fits = and_parts _ _ fit in
    let new = new_cells rev run author in
    let high : floor ≤ run.first.counter = leb-true floor run.first.counter risen.0 in
    let joins = RunMayJoin-more character_of base mine floor run.first run.after
    (RunMayJoin-from_test character_of base run.first run.after fits.0) below high in
    let longer = IsTree-run character_of (base ++ mine) run.first run.after new t joins
    (IsRun-new_cells rev run.first run.after run.text author) in
    let after : with_run rev run author (order character_of (base ++ mine))
    ≡ order character_of (base ++ (mine ++ new)) =
    with_run-order rev run author (base ++ mine) t longer ∙ ap (order character_of) (append_assoc base mine new)
    in
    let rest = runs_join rev author base (mine ++ new) (run.first.counter + length run.text) parts
    (subst (IsTree character_of) (append_assoc base mine new) longer)
    (each-append (λ c. c.stamp.counter < run.first.counter + length run.text) mine new
    (each-imply (λ c. c.stamp.counter < floor) (λ c. c.stamp.counter < run.first.counter + length run.text)
    (λ c l. omega arith) mine below)
    (new_below rev run.first run.after run.text author (run.first.counter + length run.text) (omega arith)))
    risen.1 fits.1
    in (
      (
        sym (run_may_join-permutation character_of (base ++ mine) (order character_of (base ++ mine)) run.first
            run.after (order-permutation character_of (base ++ mine) t))
            ∙ RunMayJoin-to_test character_of (base ++ mine) run.first run.after joins,
        subst (λ l. AllJoin rev author l (runs_in parts)) (sym after) rest.0,
      ),
      ap (λ l. with_all rev author l (runs_in parts)) after ∙ rest.1
          ∙ ap (λ l. order character_of (base ++ l))
          (append_assoc mine new (map (born_at rev) (inserts_in author parts))
          ∙ ap (λ l. mine ++ l) (sym (map-append (born_at rev) (run_characters run.first run.after run.text author)
          (inserts_in author parts)))),
    )
runs_join rev author base mine floor (Delete spans ∷ parts) t below rise fit =
    runs_join rev author base mine floor parts t below rise (and_parts _ _ fit).1
runs_join rev author base mine floor (Comment first last text ∷ parts) t below rise fit = absurd (false≢true fit)
runs_join rev author base mine floor (Resolve comment ∷ parts) t below rise fit = absurd (false≢true fit)

run_from : (floor : ℕ) (first : Stamp) (p : Option Stamp) (text : List ℕ) (author : Author) → floor ≤ first.counter →
    AllByRecursion (λ (c : Character). floor ≤ c.stamp.counter) (run_characters first p text author)
run_from floor first p [] author h = tt
run_from floor first p (c ∷ text) author h = (h, run_from floor (next first) (Some first) text author (omega arith))

-- what the parts insert has counters from the floor on
inserts_from : (author : Author) (floor : ℕ) (parts : List Part) → counters_rise floor parts ≡ true →
    AllByRecursion (λ (c : Character). floor ≤ c.stamp.counter) (inserts_in author parts)
inserts_from author floor [] h = tt
inserts_from author floor (Insert run ∷ parts) h =
    let risen = and_parts _ _ h in
    let high : floor ≤ run.first.counter = leb-true floor run.first.counter risen.0 in
    each-append (λ (c : Character). floor ≤ c.stamp.counter) (run_characters run.first run.after run.text author)
    (inserts_in author parts)
    (run_from floor run.first run.after run.text author high)
    (each-imply (λ (c : Character). run.first.counter + length run.text ≤ c.stamp.counter)
    (λ (c : Character). floor ≤ c.stamp.counter) (λ c l. omega arith) (inserts_in author parts)
    (inserts_from author (run.first.counter + length run.text) parts risen.1))
inserts_from author floor (Delete spans ∷ parts) h = inserts_from author floor parts h
inserts_from author floor (Comment first last text ∷ parts) h = inserts_from author floor parts h
inserts_from author floor (Resolve comment ∷ parts) h = inserts_from author floor parts h

-- a run differs from what has greater counters
run_differs : (first : Stamp) (p : Option Stamp) (text : List ℕ) (author : Author) (rest : List Character) →
    AllByRecursion (λ (c : Character). first.counter + length text ≤ c.stamp.counter) rest → all_differ rest ≡ true →
    all_differ (run_characters first p text author ++ rest) ≡ true
run_differs first p [] author rest above h = h
run_differs first p (c ∷ text) author rest above h =
    let others : AllByRecursion (λ (x : Character). first.counter + 1 ≤ x.stamp.counter)
    (run_characters (next first) (Some first) text author ++ rest) =
    each-append (λ (x : Character). first.counter + 1 ≤ x.stamp.counter)
    (run_characters (next first) (Some first) text author) rest
    (run_from (first.counter + 1) (next first) (Some first) text author (omega arith))
    (each-imply (λ (x : Character). first.counter + length (c ∷ text) ≤ x.stamp.counter)
    (λ (x : Character). first.counter + 1 ≤ x.stamp.counter) (λ x l. omega arith) rest above)
    in
    let fresh : has_stamp itself (run_characters (next first) (Some first) text author ++ rest) first ≡ false =
    none_found (λ (x : Character). same_stamp x.stamp first) (run_characters (next first) (Some first) text author
    ++ rest)
    (each-imply (λ (x : Character). first.counter + 1 ≤ x.stamp.counter) (λ (x : Character). same_stamp x.stamp first
    ≡ false) (λ x l. rw (ne_eqb x.stamp.counter first.counter (omega arith)) refl)
    (run_characters (next first) (Some first) text author ++ rest) others)
    in
    and_from _ _ (rw fresh refl)
    (run_differs (next first) (Some first) text author rest
    (each-imply (λ (x : Character). first.counter + length (c ∷ text) ≤ x.stamp.counter)
    (λ (x : Character). first.counter + 1 + length text ≤ x.stamp.counter) (λ x l. omega arith) rest above) h)

-- parts whose counters rise insert no stamp twice
pub inserts_differ : (author : Author) (floor : ℕ) (parts : List Part) → counters_rise floor parts ≡ true →
    all_differ (inserts_in author parts) ≡ true
inserts_differ author floor [] h = refl
inserts_differ author floor (Insert run ∷ parts) h =
    let risen = and_parts _ _ h in
    run_differs run.first run.after run.text author (inserts_in author parts)
    (inserts_from author (run.first.counter + length run.text) parts risen.1)
    (inserts_differ author (run.first.counter + length run.text) parts risen.1)
inserts_differ author floor (Delete spans ∷ parts) h = inserts_differ author floor parts h
inserts_differ author floor (Comment first last text ∷ parts) h = inserts_differ author floor parts h
inserts_differ author floor (Resolve comment ∷ parts) h = inserts_differ author floor parts h

pub rises_of_parts : (origin : ℕ) (parts : List Part) → are_parts origin parts ≡ true → counters_rise 0 parts ≡ true
rises_of_parts origin parts h = (and_parts _ _ (and_parts _ _ h).0).1

-- parts within the limits fit if each of them does
pub parts_fit-each : (author : Author) (parts : List Part) (cells : List Cell) → are_parts author.origin parts ≡ true →
    parts_fit author parts cells ≡ list_all (part_fits character_of cells) parts
parts_fit-each author parts cells h =
    ap (λ b. list_all (part_fits character_of cells) parts && b)
    (inserts_differ author 0 parts (rises_of_parts author.origin parts h))
    ∙ and_true (list_all (part_fits character_of cells) parts)
  where
    and_true : (b : Bool) → (b && true) ≡ b
    and_true true = refl
    and_true false = refl

has_stamp-same : {A : Type 0} (at to : A → Character) → ((x : A) → at x ≡ to x) → (xs : List A) (s : Stamp) →
    has_stamp at xs s ≡ has_stamp to xs s
has_stamp-same at to h [] s = refl
has_stamp-same at to h (x ∷ xs) s = ap₂ (λ (c : Character) b. same_stamp c.stamp s || b) (h x)
    (has_stamp-same at to h xs s)

has_parent-same : {A : Type 0} (at to : A → Character) → ((x : A) → at x ≡ to x) → (xs : List A) (p : Option Stamp) →
    has_parent at xs p ≡ has_parent to xs p
has_parent-same at to h xs None = refl
has_parent-same at to h xs (Some p) = has_stamp-same at to h xs p

pub all_same : {A : Type 0} (p q : A → Bool) → ((x : A) → p x ≡ q x) → (xs : List A) → list_all p xs ≡ list_all q xs
all_same p q h [] = refl
all_same p q h (x ∷ xs) = ap₂ (λ a b. a && b) (h x) (all_same p q h xs)

pub all_follow : {A : Type 0} (p q : A → Bool) → ((x : A) → p x ≡ true → q x ≡ true) → (xs : List A) → list_all p xs
    ≡ true → list_all q xs ≡ true
all_follow p q h [] e = refl
all_follow p q h (x ∷ xs) e = let both = and_parts _ _ e in and_from _ _ (h x both.0) (all_follow p q h xs both.1)

-- a part fits items exactly if it fits others that carry the same characters
part_fits-same : {A : Type 0} (at to : A → Character) → ((x : A) → at x ≡ to x) → (xs : List A) (part : Part) →
    part_fits at xs part ≡ part_fits to xs part
part_fits-same at to h xs (Insert run) =
    ap₂ (λ a b. a && ltb (counter_of run.after) run.first.counter && b) (has_parent-same at to h xs run.after)
    (all_same (λ x. not (eqb (at x).stamp.replica run.first.replica) || ltb (at x).stamp.counter run.first.counter)
    (λ x. not (eqb (to x).stamp.replica run.first.replica) || ltb (to x).stamp.counter run.first.counter)
    (λ x. ap (λ (c : Character). not (eqb c.stamp.replica run.first.replica) || ltb c.stamp.counter run.first.counter)
    (h x)) xs)
part_fits-same at to h xs (Delete spans) = all_same (λ s. has_stamp at xs s) (λ s. has_stamp to xs s)
    (λ s. has_stamp-same at to h xs s) (flat_map span_stamps spans)
part_fits-same at to h xs (Comment first last text) = refl
part_fits-same at to h xs (Resolve comment) = refl

pub part_fits-map : {A B : Type 0} (f : A → B) (at : B → Character) (xs : List A) (part : Part) →
    part_fits at (map f xs) part ≡ part_fits (λ x. at (f x)) xs part
part_fits-map f at xs (Insert run) = run_may_join-map f at xs run.first run.after
part_fits-map f at xs (Delete spans) = all_same (λ s. has_stamp at (map f xs) s) (λ s. has_stamp (λ x. at (f x)) xs s)
    (λ s. list_any-map f (λ y. same_stamp (at y).stamp s) xs) (flat_map span_stamps spans)
part_fits-map f at xs (Comment first last text) = refl
part_fits-map f at xs (Resolve comment) = refl

-- a death changes nothing of what fits
pub part_fits-erased : (rev : ℕ) (spans : List Span) (cells : List Cell) (part : Part) →
    part_fits character_of (without_spans rev spans cells) part ≡ part_fits character_of cells part
part_fits-erased rev spans cells part = part_fits-map (erased_at rev spans) character_of cells part
    ∙ part_fits-same (λ c. character_of (erased_at rev spans c)) character_of (λ c. erased_at-character rev spans c)
    cells part

pub parts_fit-erased : (rev : ℕ) (spans : List Span) (cells : List Cell) (parts : List Part) →
    list_all (part_fits character_of (without_spans rev spans cells)) parts
    ≡ list_all (part_fits character_of cells) parts
parts_fit-erased rev spans cells parts = all_same (part_fits character_of (without_spans rev spans cells))
    (part_fits character_of cells) (part_fits-erased rev spans cells) parts

-- what the parts leave is what their runs leave, put in turn among the cells that are marked already
pub with_parts-runs : (rev : ℕ) (author : Author) (parts : List Part) (cells : List Cell) → IsInOrder cells →
    counters_rise 0 parts ≡ true → list_all (part_fits character_of cells) parts ≡ true →
    AllJoin rev author (without_spans rev (spans_in parts) cells) (runs_in parts)
    × (with_all rev author (without_spans rev (spans_in parts) cells) (runs_in parts)
    ≡ with_parts rev parts author cells)
with_parts-runs rev author parts cells o rise fit =
    let base = without_spans rev (spans_in parts) cells in
    let marked = IsInOrder-without rev (spans_in parts) cells o in
    let alone : base ++ [] ≡ base = append-nil base in
    let walked : order character_of (base ++ []) ≡ base = ap (order character_of) alone ∙ marked.is in
    let done = runs_join rev author base [] 0 parts (subst (IsTree character_of) (sym alone) marked.tree) tt rise
    (parts_fit-erased rev (spans_in parts) cells parts ∙ fit) in (
      subst (λ l. AllJoin rev author l (runs_in parts)) walked done.0,
      ap (λ l. with_all rev author l (runs_in parts)) (sym walked) ∙ done.1,
    )
