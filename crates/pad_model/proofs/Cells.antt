-- Cells stay in order when a run joins them.
use Rattle.std.proofs.Common.{◌≡◌, ℕ, ◌+◌, ◌<◌, ◌≤◌, Bool, true, false, not, ◌&&◌, ◌||◌, cond, List, [], ◌∷◌, ◌++◌}
use Rattle.std.proofs.Common.{length, Option, Some, None, refl, sym, ap, ◌∙◌, subst, map, filter, IsPermutation, eqb}
use Rattle.std.proofs.Common.{ltb, ltb-true, lt-ltb, le-ltb, eq-eqb, Result, Ok, Err}
use Rattle.std.proofs.lemmas.Bool.{and_parts}
use Rattle.std.proofs.lemmas.List.Sorted.{IsPermutation-sym}
use Rattle.std.specs.List.{list_all, AllByRecursion}
use Rattle.pad_model.specs.Stamp.{Stamp}
use Rattle.pad_model.specs.Character.{Character, next, run_characters}
use Rattle.pad_model.specs.Cell.{Cell, character_of, born_at, new_cells, with_run, insert_run, IsInOrder}
use Rattle.pad_model.specs.Legal.{counter_of, IsTree, RunMayJoin, IsRun}
use Rattle.pad_model.specs.Log.{run_may_join}
use Rattle.pad_model.specs.Order.{order}
use Rattle.pad_model.specs.Scan.{put}
use Rattle.pad_model.specs.declared.who.Author.{Author}
use Rattle.pad_model.specs.declared.op.Run.{Run}
use Rattle.pad_model.specs.declared.refusal.Refusal.TheVariants.{PeerFault, PadFull}
use Rattle.pad_model.specs.declared.limits.TheConstants.{MAX_CHARACTERS}
use Rattle.pad_model.proofs.Members.{order-permutation, IsTree-permutation}
use Rattle.pad_model.proofs.Runs.{order-run, IsTree-run}
use Rattle.pad_model.proofs.Sets.{Has-permutation, set_law}

-- what a test of all items gives of each
pub each_passes : {A : Type 0} (t : A → Bool) (xs : List A) → list_all t xs ≡ true → AllByRecursion (λ x. t x ≡ true) xs
each_passes t [] h = tt
each_passes t (x ∷ xs) h = let parts = and_parts _ _ h in (parts.0, each_passes t xs parts.1)

-- the test of a run is what the laws ask of it
pub RunMayJoin-from_test : {A : Type 0} (at : A → Character) (items : List A) (first : Stamp) (p : Option Stamp) →
    run_may_join at items first p ≡ true → RunMayJoin at items first p
RunMayJoin-from_test at items first p h =
    let outer = and_parts _ _ h in
    let inner = and_parts _ _ outer.0 in
    record {
      above = Rattle.pad_model.proofs.Each.each-imply
          (λ x. (not (eqb (at x).stamp.replica first.replica) || ltb (at x).stamp.counter first.counter) ≡ true)
          (λ x. (at x).stamp.replica ≡ first.replica → (at x).stamp.counter < first.counter)
          (λ x t same. ltb-true (at x).stamp.counter first.counter
          (subst (λ b. (not b || ltb (at x).stamp.counter first.counter) ≡ true)
          (eq-eqb (at x).stamp.replica first.replica same) t))
          items (each_passes (λ x. not (eqb (at x).stamp.replica first.replica)
          || ltb (at x).stamp.counter first.counter) items outer.1);
      rooted = inner.0;
      later = ltb-true (counter_of p) first.counter inner.1;
    }

-- the order of a list in order is the list
pub order-order : {A : Type 0} (at : A → Character) (s : List A) → IsTree at s → order at (order at s) ≡ order at s
order-order at s t =
    let p = order-permutation at s t in
    set_law at (order at s) s (IsTree-permutation at s (order at s) p t).distinct t.distinct
    (λ c h. Has-permutation (order at s) s c (IsPermutation-sym s (order at s) p) h)
    (λ c h. Has-permutation s (order at s) c p h)

pub IsRun-new_cells : (rev : ℕ) (first : Stamp) (p : Option Stamp) (text : List ℕ) (author : Author) →
    IsRun character_of first p (map (born_at rev) (run_characters first p text author))
IsRun-new_cells rev first p [] author = tt
IsRun-new_cells rev first p (c ∷ text) author = (refl, refl, IsRun-new_cells rev (next first) (Some first) text author)

pub length-new_cells : (rev : ℕ) (first : Stamp) (p : Option Stamp) (text : List ℕ) (author : Author) →
    length (map (born_at rev) (run_characters first p text author)) ≡ length text
length-new_cells rev first p [] author = refl
length-new_cells rev first p (c ∷ text) author =
    ap Rattle.std.proofs.Common.suc (length-new_cells rev (next first) (Some first) text author)

-- a run that may join goes where the scan puts it
pub with_run-put : (rev : ℕ) (run : Run) (author : Author) (cells : List Cell) → IsInOrder cells →
    run_may_join character_of cells run.first run.after ≡ true →
    with_run rev run author cells ≡ put character_of run.after run.first (new_cells rev run author) cells
with_run-put rev run author cells o h =
    order-run character_of cells run.first run.after (new_cells rev run author) o.tree
    (RunMayJoin-from_test character_of cells run.first run.after h)
    (IsRun-new_cells rev run.first run.after run.text author)
    ∙ ap (λ c. put character_of run.after run.first (new_cells rev run author) c) o.is

-- and the cells are those that there were and the new ones, in order
IsTree-with_run : (rev : ℕ) (run : Run) (author : Author) (cells : List Cell) → IsInOrder cells →
    run_may_join character_of cells run.first run.after ≡ true → IsTree character_of (cells ++ new_cells rev run author)
IsTree-with_run rev run author cells o h =
    IsTree-run character_of cells run.first run.after (new_cells rev run author) o.tree
    (RunMayJoin-from_test character_of cells run.first run.after h)
    (IsRun-new_cells rev run.first run.after run.text author)

pub with_run-permutation : (rev : ℕ) (run : Run) (author : Author) (cells : List Cell) → IsInOrder cells →
    run_may_join character_of cells run.first run.after ≡ true →
    IsPermutation (cells ++ new_cells rev run author) (with_run rev run author cells)
with_run-permutation rev run author cells o h =
    order-permutation character_of (cells ++ new_cells rev run author) (IsTree-with_run rev run author cells o h)

pub IsInOrder-with_run : (rev : ℕ) (run : Run) (author : Author) (cells : List Cell) → IsInOrder cells →
    run_may_join character_of cells run.first run.after ≡ true → IsInOrder (with_run rev run author cells)
IsInOrder-with_run rev run author cells o h =
    let more = IsTree-with_run rev run author cells o h in
    record {
      tree = IsTree-permutation character_of (cells ++ new_cells rev run author) (with_run rev run author cells)
          (with_run-permutation rev run author cells o h) more;
      is = order-order character_of (cells ++ new_cells rev run author) more;
    }

-- the result of an insertion, case by case
pub insert_run-fault : (rev : ℕ) (run : Run) (author : Author) (cells : List Cell) →
    run_may_join character_of cells run.first run.after ≡ false → insert_run rev run author cells
    ≡ (Err PeerFault, cells)
insert_run-fault rev run author cells e = rw e refl

pub insert_run-full : (rev : ℕ) (run : Run) (author : Author) (cells : List Cell) →
    run_may_join character_of cells run.first run.after ≡ true → MAX_CHARACTERS < length cells + length run.text →
    insert_run rev run author cells ≡ (Err PadFull, cells)
insert_run-full rev run author cells e h = rw (e, lt-ltb MAX_CHARACTERS (length cells + length run.text) h) refl

pub insert_run-ok : (rev : ℕ) (run : Run) (author : Author) (cells : List Cell) →
    run_may_join character_of cells run.first run.after ≡ true → length cells + length run.text ≤ MAX_CHARACTERS →
    insert_run rev run author cells ≡ (Ok tt, with_run rev run author cells)
insert_run-ok rev run author cells e h = rw (e, le-ltb MAX_CHARACTERS (length cells + length run.text) h) refl
