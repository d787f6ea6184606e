-- No cell is later than the revision of the operation that came last.
use Rattle.std.proofs.Common.{◌≡◌, ℕ, ◌+◌, ◌≤◌, true, List, [], ◌∷◌, ◌++◌, length, Option, Some, sym, ap, subst, map}
use Rattle.std.proofs.Common.{arith, ltb, inl, inr, Result, Ok, Err}
use Rattle.std.proofs.lemmas.Bool.{and_parts}
use Rattle.std.specs.List.{AllByRecursion}
use Rattle.pad_model.specs.Answers.{Answers}
use Rattle.pad_model.specs.Stamp.{Stamp}
use Rattle.pad_model.specs.Character.{next, run_characters}
use Rattle.pad_model.specs.Cell.{Cell, IsBy, IsInOrder, born_at, character_of, new_cells, with_run, is_hidden_by}
use Rattle.pad_model.specs.Cell.{without_spans, insert_run, delete_spans}
use Rattle.pad_model.specs.Checked.{are_parts}
use Rattle.pad_model.specs.Log.{run_may_join, has_spans}
use Rattle.pad_model.specs.Parts.{AllJoin, runs_in, spans_in, inserts_in, parts_fit, with_all, with_parts, apply}
use Rattle.pad_model.specs.declared.limits.TheConstants.{MAX_CHARACTERS}
use Rattle.pad_model.specs.declared.op.Run.{Run}
use Rattle.pad_model.specs.declared.op.Span.{Span}
use Rattle.pad_model.specs.declared.op.Part.{Part}
use Rattle.pad_model.specs.declared.refusal.Refusal.{Refusal}
use Rattle.pad_model.specs.declared.who.Author.{Author}
use Rattle.pad_model.proofs.Cells.{IsInOrder-with_run, with_run-permutation}
use Rattle.pad_model.proofs.Each.{each-append, each-imply, each-permutation}
use Rattle.pad_model.proofs.Erase.{IsInOrder-without}
use Rattle.pad_model.proofs.Newer.{split}
use Rattle.pad_model.proofs.Parts.{with_parts-runs, rises_of_parts}

new_by : (rev : ℕ) (first : Stamp) (p : Option Stamp) (text : List ℕ) (author : Author) →
    AllByRecursion (IsBy rev) (map (born_at rev) (run_characters first p text author))
new_by rev first p [] author = tt
new_by rev first p (c ∷ text) author = (
  (omega arith, λ died e. absurd (cc)),
  new_by rev (next first) (Some first) text author,
)

run_by : (rev : ℕ) (run : Run) (author : Author) (cells : List Cell) → IsInOrder cells →
    AllByRecursion (IsBy rev) cells → run_may_join character_of cells run.first run.after ≡ true →
    AllByRecursion (IsBy rev) (with_run rev run author cells)
run_by rev run author cells o h joins =
    each-permutation (IsBy rev) (cells ++ new_cells rev run author) (with_run rev run author cells)
    (with_run-permutation rev run author cells o joins)
    (each-append (IsBy rev) cells (new_cells rev run author) h (new_by rev run.first run.after run.text author))

runs_by : (rev : ℕ) (author : Author) (cells : List Cell) (runs : List Run) → IsInOrder cells →
    AllByRecursion (IsBy rev) cells → AllJoin rev author cells runs →
    AllByRecursion (IsBy rev) (with_all rev author cells runs)
runs_by rev author cells [] o h j = h
runs_by rev author cells (run ∷ runs) o h j = runs_by rev author (with_run rev run author cells) runs
    (IsInOrder-with_run rev run author cells o j.0) (run_by rev run author cells o h j.0) j.1

erased_by : (rev : ℕ) (spans : List Span) (cells : List Cell) → AllByRecursion (IsBy rev) cells →
    AllByRecursion (IsBy rev) (without_spans rev spans cells)
erased_by rev spans [] h = tt
erased_by rev spans (c ∷ cells) h = (
  split (is_hidden_by spans c) (λ e. rw e (h.0.0, λ died is. (let same : rev ≡ died = cc in omega arith)))
      (λ e. rw e h.0),
  erased_by rev spans cells h.1,
)

pub later_by : (rev : ℕ) (cells : List Cell) → AllByRecursion (IsBy rev) cells → AllByRecursion (IsBy (rev + 1)) cells
later_by rev cells h = each-imply (IsBy rev) (IsBy (rev + 1))
    (λ c k. (let l : c.born ≤ rev = k.0 in omega arith, λ died e. (let l : died ≤ rev = k.1 died e in omega arith)))
    cells h

-- what the parts of an operation answer, case by case
answered : (P : Result ℕ Refusal × List Cell → Type 0) (rev : ℕ) (parts : List Part) (author : Author)
    (cells : List Cell) → ((refusal : Refusal) → P (Err refusal, cells)) →
    ((hidden : ℕ) → parts_fit author parts cells ≡ true → P (Ok hidden, with_parts rev parts author cells)) →
    P (apply rev parts author cells)
answered P rev parts author cells no_change change =
    split (parts_fit author parts cells)
    (λ fit. split (ltb MAX_CHARACTERS (length cells + length (inserts_in author parts)))
    (λ full. rw (fit, full) (no_change _))
    (λ room. rw (fit, room) (change _ fit)))
    (λ fault. rw fault (no_change _))

-- after an operation, whatever was answered, no cell is later than its revision
pub applied_by : (rev : ℕ) (parts : List Part) (author : Author) (cells new : List Cell) (result : Result ℕ Refusal) →
    IsInOrder cells → AllByRecursion (IsBy rev) cells → are_parts author.origin parts ≡ true →
    Answers cells (apply rev parts author cells) result new → AllByRecursion (IsBy rev) new
applied_by rev parts author cells new result o h checked (inl none) = subst (AllByRecursion (IsBy rev)) (sym none.1) h
applied_by rev parts author cells new result o h checked (inr answer) =
    subst (AllByRecursion (IsBy rev)) (ap (λ p. p.1) answer)
    (answered (λ p. AllByRecursion (IsBy rev) p.1) rev parts author cells (λ refusal. h)
    (λ n fit.
    let runs = with_parts-runs rev author parts cells o (rises_of_parts author.origin parts checked)
    (and_parts _ _ fit).0 in
    subst (AllByRecursion (IsBy rev)) runs.1
    (runs_by rev author (without_spans rev (spans_in parts) cells) (runs_in parts)
    (IsInOrder-without rev (spans_in parts) cells o) (erased_by rev (spans_in parts) cells h) runs.0)))

-- what an insertion answers, case by case
insert_answered : (P : Result (Unit {0}) Refusal × List Cell → Type 0) (rev : ℕ) (run : Run) (author : Author)
    (cells : List Cell) → ((refusal : Refusal) → P (Err refusal, cells)) →
    (run_may_join character_of cells run.first run.after ≡ true → P (Ok tt, with_run rev run author cells)) →
    P (insert_run rev run author cells)
insert_answered P rev run author cells no_change change =
    split (run_may_join character_of cells run.first run.after)
    (λ joins. split (ltb MAX_CHARACTERS (length cells + length run.text))
    (λ full. rw (joins, full) (no_change _))
    (λ room. rw (joins, room) (change joins)))
    (λ fault. rw fault (no_change _))

-- after an insertion, whatever it answered, no cell is later than its revision
pub inserted_by : (rev : ℕ) (run : Run) (author : Author) (cells new : List Cell) (result : Result (Unit {0}) Refusal) →
    IsInOrder cells → AllByRecursion (IsBy rev) cells →
    Answers cells (insert_run (rev + 1) run author cells) result new → AllByRecursion (IsBy (rev + 1)) new
inserted_by rev run author cells new result o h (inl none) = subst (AllByRecursion (IsBy (rev + 1))) (sym none.1)
    (later_by rev cells h)
inserted_by rev run author cells new result o h (inr answer) =
    subst (AllByRecursion (IsBy (rev + 1))) (ap (λ p. p.1) answer)
    (insert_answered (λ p. AllByRecursion (IsBy (rev + 1)) p.1) (rev + 1) run author cells
    (λ refusal. later_by rev cells h)
    (λ joins. run_by (rev + 1) run author cells o (later_by rev cells h) joins))

-- what a deletion answers, case by case
delete_answered : (P : Result ℕ Refusal × List Cell → Type 0) (rev : ℕ) (spans : List Span) (cells : List Cell) →
    ((refusal : Refusal) → P (Err refusal, cells)) →
    ((hidden : ℕ) → P (Ok hidden, without_spans rev spans cells)) → P (delete_spans rev spans cells)
delete_answered P rev spans cells no_change change =
    split (has_spans character_of cells spans) (λ there. rw there (change _)) (λ fault. rw fault (no_change _))

-- after a deletion, whatever it answered, no cell is later than its revision
pub deleted_by : (rev : ℕ) (spans : List Span) (cells new : List Cell) (result : Result ℕ Refusal) →
    AllByRecursion (IsBy rev) cells →
    Answers cells (delete_spans (rev + 1) spans cells) result new → AllByRecursion (IsBy (rev + 1)) new
deleted_by rev spans cells new result h (inl none) = subst (AllByRecursion (IsBy (rev + 1))) (sym none.1)
    (later_by rev cells h)
deleted_by rev spans cells new result h (inr answer) =
    subst (AllByRecursion (IsBy (rev + 1))) (ap (λ p. p.1) answer)
    (delete_answered (λ p. AllByRecursion (IsBy (rev + 1)) p.1) (rev + 1) spans cells (λ refusal. later_by rev cells h)
    (λ hidden. erased_by (rev + 1) spans cells (later_by rev cells h)))
