-- A run and a deletion that are made together.
use Rattle.std.proofs.Common.{◌≡◌, ℕ, suc, ◌+◌, ◌-◌, ◌≤◌, ◌<◌, inl, inr, Bool, true, false, ◌&&◌, ◌||◌, List, []}
use Rattle.std.proofs.Common.{◌∷◌, ◌++◌, length, map, flat_map, sum_by, count_by, Option, None, refl, sym, ap}
use Rattle.std.proofs.Common.{◌∙◌, subst, arith, leb-true, eqb-true, get_or, drop, Ok}
use Rattle.std.specs.List.{AllByRecursion, list_all}
use Rattle.std.proofs.lemmas.Bool.{and_parts, or_left, or_right}
use Rattle.std.proofs.lemmas.List.Folds.{list_any-append}
use Rattle.std.proofs.lemmas.List.Sums.{sum_by-cons}
use Rattle.pad_model.specs.Cell.{Cell, character_of, new_cells, with_run, is_hidden_by, IsInOrder}
use Rattle.pad_model.specs.Checked.{is_run, is_span}
use Rattle.pad_model.specs.Legal.{has_stamp}
use Rattle.pad_model.specs.Log.{run_may_join, has_spans}
use Rattle.pad_model.specs.Operation.{span_stamps}
use Rattle.pad_model.specs.Stamp.{Stamp, same_stamp}
use Rattle.pad_model.specs.Visible.{is_erased}
use Rattle.pad_model.specs.declared.op.Run.{Run}
use Rattle.pad_model.specs.declared.op.Span.{Span}
use Rattle.pad_model.specs.declared.limits.TheConstants.{MAX_COUNTER}
use Rattle.pad_model.specs.declared.who.Author.{Author}
use Rattle.pad_model.proofs.Cells.{RunMayJoin-from_test, length-new_cells, with_run-permutation}
use Rattle.pad_model.proofs.Each.{found_has}
use Rattle.pad_model.proofs.Erase.{is_erased-stamps_from}
use Rattle.pad_model.proofs.InTurn.{spans_fit}
use Rattle.pad_model.proofs.Newer.{same_stamp-true}
use Rattle.pad_model.proofs.Pushed.{stamps_there}
use Rattle.ident_index.specs.Index.{Index, Covers, stamp_behind}
use Rattle.blocks.specs.Blocks.{IsEdge, KeepsEdges}
use Rattle.block_seq.specs.Rows.{IsCutOut}
use Rattle.block_seq.proofs.BlockCells.{covers-in_span}
use Rattle.block_seq.proofs.Fronts.{drop-item}
use Rattle.pad_model.specs.Cell.{without_spans}
use Rattle.pad_model.specs.Checked.{are_parts}
use Rattle.pad_model.specs.Parts.{AllJoin, apply, part_fits, runs_in, spans_in, with_all}
use Rattle.pad_model.specs.declared.limits.TheConstants.{MAX_CHARACTERS}
use Rattle.pad_model.specs.declared.op.Part.{Part}
use Rattle.pad_model.specs.declared.op.Part.TheVariants.{Insert, Delete, Comment, Resolve}
use Rattle.pad_model.proofs.Parts.{with_parts-runs, rises_of_parts}
use Rattle.block_seq.specs.KeptParts.{inserted_size}
use Rattle.block_seq.proofs.Applied.{parts_each, length-inserts_in, apply-ok}
use Rattle.block_seq.proofs.RowParts.{spans_checked_in, runs_checked_in}

-- what is there is older than a run that may join, where it has its replica
pub older : (cells : List Cell) (first : Stamp) (p : Option Stamp) (s : Stamp) → run_may_join character_of cells first p
    ≡ true → has_stamp character_of cells s ≡ true → s.replica ≡ first.replica → s.counter < first.counter
older cells first p s may there replica =
    let joins = RunMayJoin-from_test character_of cells first p may in
    let found = found_has (λ (x : Cell). same_stamp x.stamp s) (λ x. x.stamp.replica ≡ first.replica → x.stamp.counter
    < first.counter) cells there joins.above in
    let same = same_stamp-true found.0.stamp s found.1.0 in
    let counter = ap (λ (x : Stamp). x.counter) same in
    let less = found.1.1 (ap (λ (x : Stamp). x.replica) same ∙ replica) in
    omega arith

-- what spans name that are there is older than a run that may join, where it has its replica
pub named_below : (spans : List Span) (cells : List Cell) (first : Stamp) (p : Option Stamp) →
    has_spans character_of cells spans ≡ true → run_may_join character_of cells first p ≡ true
    → (s : Stamp) → is_erased (flat_map span_stamps spans) s ≡ true → s.replica ≡ first.replica → s.counter
    < first.counter
named_below spans cells first p named may s e replica =
    older cells first p s may (stamps_there character_of (flat_map span_stamps spans) cells s named e) replica

-- spans that are cut out stay so when a run's block is put
pub cut_out_put : (m n : Index) (spans : List Span) (first : Stamp) (len : ℕ) →
    ((s : Stamp) → IsEdge m s → (Covers first len s → first ≡ s) → IsEdge n s)
    → ((s : Stamp) → is_erased (flat_map span_stamps spans) s ≡ true → s.replica ≡ first.replica → s.counter
    < first.counter) → list_all is_span spans ≡ true → AllByRecursion (IsCutOut m) spans →
    AllByRecursion (IsCutOut n) spans
cut_out_put m n [] first len edges below checked cut = tt
cut_out_put m n (span ∷ spans) first len edges below checked cut =
    let both = and_parts _ _ checked in
    let some : 1 ≤ span.len = leb-true 1 span.len (and_parts _ _ both.0).0 in
    let named : (s : Stamp) → Covers span.first span.len s → is_erased (flat_map span_stamps (span ∷ spans)) s ≡ true =
    λ s c. list_any-append (λ e. same_stamp e s) (span_stamps span) (flat_map span_stamps spans)
    ∙ or_left _ _ (is_erased-stamps_from span.first span.len s ∙ covers-in_span span.first span.len s c)
    in
    let last = stamp_behind span.first (span.len - 1) in (
      (
        edges span.first cut.0.0 (λ c. (let inside = c.1 in
            let less = below span.first (named span.first (refl, omega arith, omega arith)) (sym c.0) in
            absurd (omega arith))),
        edges (stamp_behind span.first span.len) cut.0.1 (λ c.
            (let inside = c.1 in
            let less = below last (named last (refl, omega arith, omega arith)) (sym c.0) in
            Rattle.ident_index.proofs.Order.same_stamps first (stamp_behind span.first span.len) (omega arith) c.0)),
      ),
      cut_out_put m n spans first len edges
          (λ s e. below s (list_any-append (λ e. same_stamp e s) (span_stamps span) (flat_map span_stamps spans)
          ∙ or_right _ _ e)) both.1 cut.1,
    )

-- and through cuts
pub cut_out_kept : (m n : Index) (spans : List Span) → KeepsEdges m n → AllByRecursion (IsCutOut m) spans →
    AllByRecursion (IsCutOut n) spans
cut_out_kept m n [] keeps cut = tt
cut_out_kept m n (span ∷ spans) keeps cut =
    ((keeps span.first cut.0.0, keeps (stamp_behind span.first span.len) cut.0.1), cut_out_kept m n spans keeps cut.1)

-- the block of a run is within the limits
pub run_sized : (origin start : ℕ) (run : Run) → is_run origin run ≡ true → (1 ≤ length run.text)
    × (run.first.counter + length run.text ≤ MAX_COUNTER + 1)
run_sized origin start run h =
    let whole = and_parts _ _ h in
    let front = and_parts _ _ whole.0 in (
      leb-true 1 (length run.text) (and_parts _ _ front.0).0,
      leb-true (run.first.counter + length run.text)
          (MAX_COUNTER + 1) whole.1,
    )

-- how many cells there are with a run
pub length-with_run : (rev : ℕ) (run : Run) (author : Author) (cells : List Cell) → IsInOrder cells →
    run_may_join character_of cells run.first run.after ≡ true → length (with_run rev run author cells) ≡ length cells
    + length run.text
length-with_run rev run author cells o may =
    let new = new_cells rev run author in
    Rattle.std.proofs.lemmas.List.Sorted.length_permutation (cells ++ new) (with_run rev run author cells)
    (with_run-permutation rev run author cells o may)
    ∙ Rattle.std.proofs.Common.length-append cells new ∙ ap (λ n. length cells + n)
    (length-new_cells rev run.first run.after run.text author)

-- what is left to put when one more run is put
pub record PutNext (rev origin most : ℕ) (author : Author) (now all : List Cell) (runs : List Run) : Type 0 where
  pub checked : list_all (is_run origin) runs ≡ true
  pub join : AllJoin rev author now runs
  pub whole : with_all rev author now runs ≡ all
  pub room : length now + sum_by (λ run. length run.text) runs ≤ most
  pub order : IsInOrder now

pub put_next : (rev origin most : ℕ) (author : Author) (now new all : List Cell) (run : Run) (runs : List Run) →
    PutNext rev origin most author now all (run ∷ runs) → new ≡ with_run rev run author now →
    PutNext rev origin most author new all runs
put_next rev origin most author now new all run runs p made =
    let size = ap length made ∙ length-with_run rev run author now p.order p.join.0 in
    let sum = sum_by-cons (λ (r : Run). length r.text) run runs in
    record {
      checked = (and_parts _ _ p.checked).1;
      join = subst (λ l. AllJoin rev author l runs) (sym made) p.join.1;
      whole = ap (λ l. with_all rev author l runs) made ∙ p.whole;
      room = (let room = p.room in omega (arith, size, sum, room));
      order = subst IsInOrder (sym made)
          (Rattle.pad_model.proofs.Cells.IsInOrder-with_run rev run author now p.order p.join.0);
    }

-- the lent runs from a place on
pub lent_from : {X : Type 0} (f : X → Run) (xs : List X) (i : ℕ) (x : X) → i < length xs → x ≡ get_or xs i x →
    map f (drop i xs) ≡ f x ∷ map f (drop (i + 1) xs)
lent_from f xs i x h e = ap (map f) (drop-item xs i x h e)

pub lent_checked : {X : Type 0} (f : X → Run) (origin : ℕ) (xs : List X) → list_all (λ x. is_run origin (f x)) xs
    ≡ list_all (is_run origin) (map f xs)
lent_checked f origin [] = refl
lent_checked f origin (x ∷ xs) = ap (λ b. is_run origin (f x) && b) (lent_checked f origin xs)

pub lent_sizes : {X : Type 0} (f : X → Run) (xs : List X) → sum_by (λ x. length (f x).text) xs
    ≡ sum_by (λ run. length run.text) (map f xs)
lent_sizes f [] = refl
lent_sizes f (x ∷ xs) = sum_by-cons (λ y. length (f y).text) x xs ∙ ap (λ n. length (f x).text + n) (lent_sizes f xs)
    ∙ sym (sum_by-cons (λ (run : Run). length run.text) (f x) (map f xs))

-- ---- the parts of one operation by their spans and their runs
runs-sizes : (parts : List Part) → sum_by inserted_size parts ≡ sum_by (λ run. length run.text) (runs_in parts)
runs-sizes [] = refl
runs-sizes (Insert run ∷ parts) = sum_by-cons inserted_size (Insert run) parts ∙ ap (λ n. length run.text + n)
    (runs-sizes parts) ∙ sym (sum_by-cons (λ (r : Run). length r.text) run (runs_in parts))
runs-sizes (Delete spans ∷ parts) = let rest = runs-sizes parts in rw (sum_by-cons inserted_size (Delete spans) parts)
    (omega (arith, rest))
runs-sizes (Comment first last text ∷ parts) = let rest = runs-sizes parts in
    rw (sum_by-cons inserted_size (Comment first last text) parts) (omega (arith, rest))
runs-sizes (Resolve comment ∷ parts) = let rest = runs-sizes parts in
    rw (sum_by-cons inserted_size (Resolve comment) parts) (omega (arith, rest))

-- what parts that fit leave
pub record PartsMade (rev : ℕ) (author : Author) (parts : List Part) (now : List Cell) (spans : List Span)
    (runs : List Run) : Type 0 where
  pub checked : list_all is_span spans ≡ true
  pub there : has_spans character_of now spans ≡ true
  pub sized : list_all (is_run author.origin) runs ≡ true
  pub join : AllJoin rev author (without_spans rev spans now) runs
  pub room : length now + sum_by (λ run. length run.text) runs ≤ MAX_CHARACTERS
  pub made : apply rev parts author now ≡ (
    Ok (count_by (is_hidden_by spans) now),
    with_all rev author (without_spans rev spans now) runs,
  )

pub parts_made : (rev : ℕ) (author : Author) (parts : List Part) (now : List Cell) (spans : List Span)
    (runs : List Run) → IsInOrder now → are_parts author.origin parts ≡ true →
    list_all (part_fits character_of now) parts ≡ true
    → length now + sum_by inserted_size parts ≤ MAX_CHARACTERS → spans ≡ spans_in parts → runs ≡ runs_in parts →
    PartsMade rev author parts now spans runs
parts_made rev author parts now spans runs o checked fit room spans_is runs_is =
    let joined = with_parts-runs rev author parts now o (rises_of_parts author.origin parts checked) fit in
    let each = parts_each author.origin parts checked in
    let sizes = runs-sizes parts in
    let inserts = length-inserts_in author parts in
    subst (λ l. PartsMade rev author parts now spans l) (sym runs_is)
    (subst (λ l. PartsMade rev author parts now l (runs_in parts)) (sym spans_is)
    (record {
      checked = spans_checked_in author.origin parts each;
      there = spans_fit now parts fit;
      sized = runs_checked_in author.origin parts each;
      join = joined.0;
      room = omega (arith, room, sizes);
      made = apply-ok rev parts author now checked fit (omega (arith, room, inserts))
          ∙ ap (λ l. (Ok (count_by (is_hidden_by (spans_in parts)) now), l))
          (sym joined.1);
    }))

-- lists of lent runs of no item and of one
pub no_run : {X : Type 0} (f : X → Run) (xs : List X) → length xs ≡ 0 → map f xs ≡ []
no_run f [] e = refl
no_run f (x ∷ xs) e = absurd (omega arith)
