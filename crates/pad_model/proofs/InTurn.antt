-- Parts that fit leave the same cells when they are made at once as when they are made one after another.
use Rattle.std.proofs.Common.{◌≡◌, ℕ, ◌+◌, ◌<◌, true, false, cond, List, [], ◌∷◌, ◌++◌, Option, Some, refl, sym, ap}
use Rattle.std.proofs.Common.{ap₂, ◌∙◌, subst, map, flat_map, count_by, arith}
use Rattle.std.proofs.lemmas.Bool.{and_parts, and_from, both_ways, or_left, false≢true}
use Rattle.std.proofs.lemmas.List.{map-append}
use Rattle.std.proofs.lemmas.List.Concat.{flat_map-append}
use Rattle.std.proofs.lemmas.List.Folds.{list_any-append, list_all-append}
use Rattle.std.proofs.lemmas.List.Sorted.{list_any-IsPermutation, sum_by-IsPermutation}
use Rattle.std.proofs.lemmas.List.Sums.{sum_by-cons, sum_by-append}
use Rattle.std.specs.List.{AllByRecursion, list_all}
use Rattle.pad_model.specs.Stamp.{Stamp, same_stamp}
use Rattle.pad_model.specs.Character.{next, run_characters}
use Rattle.pad_model.specs.Cell.{Cell, born_at, character_of, new_cells, with_run, is_named, is_hidden_by, erased_at}
use Rattle.pad_model.specs.Cell.{without_spans, IsInOrder}
use Rattle.pad_model.specs.Checked.{are_parts}
use Rattle.pad_model.specs.Legal.{has_stamp}
use Rattle.pad_model.specs.Log.{run_may_join, has_spans}
use Rattle.pad_model.specs.Operation.{span_stamps}
use Rattle.pad_model.specs.Order.{order}
use Rattle.pad_model.specs.Parts.{AllJoin, part_fits, runs_in, spans_in, parts_fit, with_all, with_parts}
use Rattle.pad_model.specs.Parts.{with_each_part}
use Rattle.pad_model.specs.Visible.{is_erased}
use Rattle.pad_model.specs.declared.who.Author.{Author}
use Rattle.pad_model.specs.declared.op.Run.{Run}
use Rattle.pad_model.specs.declared.op.Span.{Span}
use Rattle.pad_model.specs.declared.op.Part.{Part}
use Rattle.pad_model.specs.declared.op.Part.TheVariants.{Insert, Delete, Comment, Resolve}
use Rattle.pad_model.proofs.Newer.{split}
use Rattle.pad_model.proofs.Each.{each-imply}
use Rattle.pad_model.proofs.Cells.{RunMayJoin-from_test, IsInOrder-with_run, with_run-permutation}
use Rattle.pad_model.proofs.Erase.{IsInOrder-without, without_twice, without_none, without-order}
use Rattle.pad_model.proofs.Parts.{all_follow, with_parts-runs, part_fits-erased, rises_of_parts}
use Rattle.pad_model.proofs.Pushed.{stamps_there}
use Rattle.pad_model.proofs.Runs.{run_fresh}

-- spans whose stamps are there name no character of a run that may join
pub unnamed : (rev : ℕ) (spans : List Span) (cells : List Cell) (first : Stamp) (p : Option Stamp) (text : List ℕ)
    (author : Author) → has_spans character_of cells spans ≡ true →
    AllByRecursion (λ c. c.stamp.replica ≡ first.replica → c.stamp.counter < first.counter) cells →
    AllByRecursion (λ c. is_named spans c ≡ false) (map (born_at rev) (run_characters first p text author))
unnamed rev spans cells first p [] author h above = tt
unnamed rev spans cells first p (c ∷ text) author h above = (
  split (is_erased (flat_map span_stamps spans) first)
      (λ e. absurd (both_ways _ (run_fresh character_of cells first above)
      (stamps_there character_of (flat_map span_stamps spans) cells first h e))) (λ e. e),
  unnamed rev spans cells (next first) (Some first) text author h
      (each-imply (λ c. c.stamp.replica ≡ first.replica → c.stamp.counter < first.counter)
      (λ c. c.stamp.replica ≡ first.replica → c.stamp.counter < first.counter + 1) (λ c k e. let l : c.stamp.counter
      < first.counter = k e in omega arith) cells above),
)

-- a deletion leaves cells that it does not name, and hides none of them
left_alone : (rev : ℕ) (spans : List Span) (cells : List Cell) → AllByRecursion (λ c. is_named spans c ≡ false) cells →
    (without_spans rev spans cells ≡ cells) × (count_by (is_hidden_by spans) cells ≡ 0)
left_alone rev spans [] h = (refl, refl)
left_alone rev spans (c ∷ cells) h =
    let rest = left_alone rev spans cells h.1 in (
      ap₂ (λ (x : Cell) l. x ∷ l) (rw h.0 refl) rest.0,
      sum_by-cons (λ (x : Cell). cond (is_hidden_by spans x) 1 0) c cells ∙ (rw h.0 (omega (arith, rest.1))),
    )

new_left_alone : (rev : ℕ) (spans : List Span) (run : Run) (author : Author) (cells : List Cell) →
    run_may_join character_of cells run.first run.after ≡ true → has_spans character_of cells spans ≡ true →
    (without_spans rev spans (new_cells rev run author) ≡ new_cells rev run author)
    × (count_by (is_hidden_by spans) (new_cells rev run author) ≡ 0)
new_left_alone rev spans run author cells may named =
    left_alone rev spans (new_cells rev run author)
    (unnamed rev spans cells run.first run.after run.text author named
    (RunMayJoin-from_test character_of cells run.first run.after may).above)

-- a run and a deletion that fit the same cells can change places
pub commute : (rev : ℕ) (spans : List Span) (run : Run) (author : Author) (cells : List Cell) →
    run_may_join character_of cells run.first run.after ≡ true → has_spans character_of cells spans ≡ true →
    without_spans rev spans (with_run rev run author cells) ≡ with_run rev run author (without_spans rev spans cells)
commute rev spans run author cells may named =
    without-order rev spans (cells ++ new_cells rev run author)
    ∙ ap (order character_of)
    (map-append (erased_at rev spans) cells (new_cells rev run author)
    ∙ ap (λ l. without_spans rev spans cells ++ l) (new_left_alone rev spans run author cells may named).0)

-- the deletion hides as much with the run there as without it
pub hidden-with_run : (rev : ℕ) (spans : List Span) (run : Run) (author : Author) (cells : List Cell) →
    IsInOrder cells → run_may_join character_of cells run.first run.after ≡ true →
    has_spans character_of cells spans ≡ true →
    count_by (is_hidden_by spans) (with_run rev run author cells) ≡ count_by (is_hidden_by spans) cells
hidden-with_run rev spans run author cells o may named =
    let new = new_cells rev run author in
    let none = (new_left_alone rev spans run author cells may named).1 in
    sum_by-IsPermutation (λ c. cond (is_hidden_by spans c) 1 0) (cells ++ new) (with_run rev run author cells)
    (with_run-permutation rev run author cells o may)
    ∙ sum_by-append (λ c. cond (is_hidden_by spans c) 1 0) cells new
    ∙ (let sum : count_by (is_hidden_by spans) cells + count_by (is_hidden_by spans) new
    ≡ count_by (is_hidden_by spans) cells = omega (arith, none) in sum)

-- a run that joins removes nothing
pub has_stamp-with_run : (rev : ℕ) (run : Run) (author : Author) (cells : List Cell) (s : Stamp) → IsInOrder cells →
    run_may_join character_of cells run.first run.after ≡ true → has_stamp character_of cells s ≡ true →
    has_stamp character_of (with_run rev run author cells) s ≡ true
has_stamp-with_run rev run author cells s o may h =
    let new = new_cells rev run author in
    sym (list_any-IsPermutation (λ (c : Cell). same_stamp c.stamp s) (cells ++ new) (with_run rev run author cells)
    (with_run-permutation rev run author cells o may))
    ∙ list_any-append (λ (c : Cell). same_stamp c.stamp s) cells new ∙ or_left _ _ h

pub has_spans-with_run : (rev : ℕ) (run : Run) (author : Author) (cells : List Cell) (spans : List Span) →
    IsInOrder cells → run_may_join character_of cells run.first run.after ≡ true →
    has_spans character_of cells spans ≡ true → has_spans character_of (with_run rev run author cells) spans ≡ true
has_spans-with_run rev run author cells spans o may named =
    all_follow (λ s. has_stamp character_of cells s) (λ s. has_stamp character_of (with_run rev run author cells) s)
    (λ s. has_stamp-with_run rev run author cells s o may) (flat_map span_stamps spans) named

-- the parts made one after another leave what their runs leave among the cells already marked as dead
in_turn : (rev : ℕ) (author : Author) (cells : List Cell) (parts : List Part) → IsInOrder cells →
    AllJoin rev author (without_spans rev (spans_in parts) cells) (runs_in parts) →
    has_spans character_of cells (spans_in parts) ≡ true →
    with_each_part rev author cells parts
    ≡ with_all rev author (without_spans rev (spans_in parts) cells) (runs_in parts)
in_turn rev author cells [] o j named = sym (without_none rev cells)
in_turn rev author cells (Insert run ∷ parts) o j named =
    let spans = spans_in parts in
    let may : run_may_join character_of cells run.first run.after ≡ true =
    sym (part_fits-erased rev spans cells (Insert run)) ∙ j.0 in
    let swapped = commute rev spans run author cells may named in
    in_turn rev author (with_run rev run author cells) parts (IsInOrder-with_run rev run author cells o may)
    (subst (λ l. AllJoin rev author l (runs_in parts)) (sym swapped) j.1)
    (has_spans-with_run rev run author cells spans o may named)
    ∙ ap (λ l. with_all rev author l (runs_in parts)) swapped
in_turn rev author cells (Delete spans ∷ parts) o j named =
    let merged = without_twice rev spans (spans_in parts) cells in
    let rest : has_spans character_of cells (spans_in parts) ≡ true =
    (and_parts _ _ (sym (ap (list_all (λ s. has_stamp character_of cells s))
    (flat_map-append span_stamps spans (spans_in parts)) ∙ list_all-append (λ s. has_stamp character_of cells s)
    (flat_map span_stamps spans) (flat_map span_stamps (spans_in parts))) ∙ named)).1
    in
    in_turn rev author (without_spans rev spans cells) parts (IsInOrder-without rev spans cells o)
    (subst (λ l. AllJoin rev author l (runs_in parts)) (sym merged) j)
    (part_fits-erased rev spans cells (Delete (spans_in parts)) ∙ rest)
    ∙ ap (λ l. with_all rev author l (runs_in parts)) merged
in_turn rev author cells (Comment first last text ∷ parts) o j named = in_turn rev author cells parts o j named
in_turn rev author cells (Resolve comment ∷ parts) o j named = in_turn rev author cells parts o j named

-- the spans of parts that fit are there
pub spans_fit : (cells : List Cell) (parts : List Part) → list_all (part_fits character_of cells) parts ≡ true →
    has_spans character_of cells (spans_in parts) ≡ true
spans_fit cells [] h = refl
spans_fit cells (Insert run ∷ parts) h = spans_fit cells parts (and_parts _ _ h).1
spans_fit cells (Delete spans ∷ parts) h =
    let both = and_parts _ _ h in
    ap (list_all (λ s. has_stamp character_of cells s)) (flat_map-append span_stamps spans (spans_in parts))
    ∙ list_all-append (λ s. has_stamp character_of cells s) (flat_map span_stamps spans)
    (flat_map span_stamps (spans_in parts))
    ∙ and_from _ _ both.0 (spans_fit cells parts both.1)
spans_fit cells (Comment first last text ∷ parts) h = absurd (false≢true h)
spans_fit cells (Resolve comment ∷ parts) h = absurd (false≢true h)

-- parts made at once leave what they leave when made one after another
pub with_parts-each : (rev : ℕ) (author : Author) (parts : List Part) (cells : List Cell) → IsInOrder cells →
    are_parts author.origin parts ≡ true → parts_fit author parts cells ≡ true →
    with_parts rev parts author cells ≡ with_each_part rev author cells parts
with_parts-each rev author parts cells o checked fit =
    let each = (and_parts _ _ fit).0 in
    let runs = with_parts-runs rev author parts cells o (rises_of_parts author.origin parts checked) each in
    sym runs.1 ∙ sym (in_turn rev author cells parts o runs.0 (spans_fit cells parts each))
