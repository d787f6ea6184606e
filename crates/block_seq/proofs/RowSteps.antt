-- What a change leaves of the sequence of blocks.
use Rattle.std.proofs.Common.{◌≡◌, ◌⊎◌, inl, inr, ℕ, ◌+◌, ◌-◌, ◌≤◌, ◌<◌, max, true, List, [], ◌∷◌, ◌++◌, length, take}
use Rattle.std.proofs.Common.{drop, sum_by, Option, None, refl, sym, ap, ap₂, ◌∙◌, subst, arith, length-append}
use Rattle.std.specs.List.{AllByRecursion, insert}
use Rattle.std.proofs.lemmas.List.{take-map, drop-map}
use Rattle.std.proofs.lemmas.List.Sums.{sum_by-insert}
use Rattle.std.proofs.lemmas.List.Concat.{flat_map-append}
use Rattle.block_seq.proofs.RowNow.{run_by, later_by, clock-with_run}
use Rattle.pad_model.specs.Cell.{Cell, IsBy, clock_of, IsInOrder, character_of, new_cells, with_run, delete_spans}
use Rattle.pad_model.specs.Cell.{is_hidden_by, without_spans}
use Rattle.pad_model.specs.Log.{run_may_join, has_spans}
use Rattle.pad_model.specs.declared.op.Span.{Span}
use Rattle.std.proofs.Common.{Ok, count_by}
use Rattle.pad_model.specs.Scan.{put}
use Rattle.pad_model.specs.Stamp.{Stamp, same_stamp}
use Rattle.pad_model.specs.declared.op.Run.{Run}
use Rattle.pad_model.specs.declared.who.Author.{Author}
use Rattle.pad_model.proofs.Cells.{with_run-put, IsInOrder-with_run, RunMayJoin-from_test}
use Rattle.pad_model.proofs.Each.{found_has}
use Rattle.pad_model.proofs.Newer.{same_stamp-true}
use Rattle.ident_index.specs.Index.{Index, Holds, IsNew}
use Rattle.blocks.specs.declared.block.Block.{Block}
use Rattle.blocks.specs.Blocks.{IsKept, IsListed, without_labels, unlabelled}
use Rattle.blocks.specs.Cells.{author_at, block_cells, cells_of, IsWithin, SameCells}
use Rattle.blocks.proofs.Cells.{cells-without_labels, within-without_labels, within-of_without}
use Rattle.blocks.proofs.Entries.{each_insert}
use Rattle.blocks.proofs.Parts.{sum-without_labels}
use Rattle.block_seq.specs.Rows.{IsBlockSeq, IsPlaceFor}
use Rattle.block_seq.proofs.BlockCells.{length-cells, held_cell, cells-more_text, cells-more_authors, within_more}
use Rattle.block_seq.proofs.BlockCells.{new_block_cells, stretch_last}

-- one more author, or none, changes no cell
wider : (old new : List Author) (a : Author) (text : List ℕ) (bs : List Block) → (new ≡ old) ⊎ (new ≡ old ++ a ∷ []) →
    AllByRecursion (IsWithin (length old) (length text)) bs
    → AllByRecursion (IsWithin (length new) (length text)) bs × (cells_of new text bs ≡ cells_of old text bs)
wider old new a text bs (inl same) w = (
  subst (λ l. AllByRecursion (IsWithin (length l) (length text)) bs) (sym same) w,
  ap (λ l. cells_of l text bs) same,
)
wider old new a text bs (inr more) w = (
  within_more (length old) (length new) (length text)
      (length text) bs (omega (arith, ap length more, length-append old (a ∷ []))) (omega arith) w,
  ap (λ l. cells_of l text bs) more ∙ cells-more_authors old a text bs w,
)

-- what changes no cell keeps all
pub unchanged : {latest clock : ℕ} (old new : List Author) (a : Author) (text : List ℕ) (m n : Index)
    (bs after : List Block) → IsBlockSeq latest clock old text m bs → (new ≡ old) ⊎ (new ≡ old ++ a ∷ []) →
    IsKept n after → SameCells bs after
    → IsBlockSeq latest clock new text n after × (cells_of new text after ≡ cells_of old text bs)
unchanged {latest} {clock} old new a text m n bs after s more kept same =
    let wide = wider old new a text bs more s.within in
    let within = same.within (length new) (length text) wide.0 in
    let cells = same.cells new text wide.0 ∙ wide.1 in (
      record {
        kept = kept;
        within = within;
        full = s.full ∙ sym (length-cells old text bs s.within) ∙ ap length (sym cells)
            ∙ length-cells new text after within;
        order = subst IsInOrder (sym cells) s.order;
        dated = subst (AllByRecursion (IsBy latest)) (sym cells) s.dated;
        newest = ap clock_of cells ∙ s.newest;
      },
      cells,
    )

-- a run that may join has stamps that no block holds
pub run_is_new : (authors : List Author) (text : List ℕ) (m : Index) (bs : List Block) (first : Stamp)
    (p : Option Stamp) (len : ℕ) → IsListed m bs → AllByRecursion (IsWithin (length authors) (length text)) bs
    → run_may_join character_of (cells_of authors text bs) first p ≡ true → IsNew m first len
run_is_new authors text m bs first p len k w may s covers other held =
    let there = held_cell authors text m bs s other k w held in
    let joins = RunMayJoin-from_test character_of (cells_of authors text bs) first p may in
    let found = found_has (λ (x : Cell). same_stamp x.stamp s) (λ x. x.stamp.replica ≡ first.replica → x.stamp.counter
    < first.counter) (cells_of authors text bs) there joins.above in
    let same = same_stamp-true found.0.stamp s found.1.0 in
    let replica = ap (λ (x : Stamp). x.replica) same in
    let counter = ap (λ (x : Stamp). x.counter) same in
    let less = found.1.1 (replica ∙ sym covers.0) in
    omega arith

cells-insert : (authors : List Author) (text : List ℕ) (bs : List Block) (k : ℕ) (b : Block) →
    cells_of authors text (insert bs k b) ≡ cells_of authors text (take k bs)
    ++ (block_cells authors text b ++ cells_of authors text (drop k bs))
cells-insert authors text bs k b = flat_map-append (block_cells authors text) (take k bs) (b ∷ drop k bs)

-- what an insertion leaves
pub run_put : {latest clock : ℕ} (most last : ℕ) (old new : List Author) (a : Author) (text : List ℕ) (m m1 m2 : Index)
    (bs mid after : List Block) (now : List Cell) (run : Run) (k rev author : ℕ) (nb : Block)
    → latest ≤ most → rev ≤ most → 1 ≤ length run.text → last ≡ run.first.counter + (length run.text - 1) →
    IsBlockSeq latest clock old text m bs → cells_of old text bs ≡ now → (new ≡ old) ⊎ (new ≡ old ++ a ∷ []) →
    (author < length new) × (author_at new author ≡ a)
    → run_may_join character_of now run.first run.after ≡ true → SameCells bs mid →
    IsPlaceFor run.after run.first mid k → IsKept m2 after
    → nb ≡ record { first = run.first; parent = run.after; author = author; born = rev; died = None; label = 0; start = length text; len = length run.text }
    → without_labels after ≡ insert (without_labels mid) k (unlabelled nb)
    → IsBlockSeq most (max clock last) new (text ++ run.text) m2 after
    × (cells_of new (text ++ run.text) after ≡ with_run rev run a now)
run_put {latest} {clock} most last old new a text m m1 m2 bs mid after now run k rev author nb latest_is rev_is some
    last_is s is more here may same place kept nb_is put_is =
    let wide = text ++ run.text in
    let length_wide = length-append text run.text in
    let w = wider old new a text bs more s.within in
    let mid_within = same.within (length new) (length text) w.0 in
    let mid_wide = within_more (length new) (length new) (length text) (length wide) mid (omega arith)
    (omega (arith, length_wide)) mid_within in
    let author_is : nb.author ≡ author = ap (λ (b : Block). b.author) nb_is in
    let start_is : nb.start ≡ length text = ap (λ (b : Block). b.start) nb_is in
    let len_is : nb.len ≡ length run.text = ap (λ (b : Block). b.len) nb_is in
    let inside = here.0 in
    let nb_within : IsWithin (length new) (length wide) nb = (omega arith, omega (arith, length_wide)) in
    let after_within = within-of_without (length new) (length wide) after
    (subst (AllByRecursion (IsWithin (length new) (length wide))) (sym put_is)
    (each_insert (IsWithin (length new) (length wide)) (without_labels mid) k (unlabelled nb)
    (within-without_labels (length new) (length wide) mid mid_wide) nb_within)) in
    let new_is : block_cells new wide nb ≡ new_cells rev run a =
    ap (block_cells new wide) nb_is
    ∙ ap (Rattle.blocks.specs.Cells.run_cells (author_at new author) rev None run.first run.after)
    (stretch_last text run.text (length run.text) refl)
    ∙ new_block_cells (author_at new author) rev run.first run.after run.text ∙ ap (new_cells rev run) here.1
    in
    let base : cells_of new wide mid ≡ now = cells-more_text new text run.text mid mid_within ∙ same.cells new text w.0
    ∙ w.1 ∙ is in
    let front : cells_of new wide (take k (without_labels mid)) ≡ cells_of new wide (take k mid) =
    ap (cells_of new wide) (take-map unlabelled k mid) ∙ cells-without_labels new wide (take k mid) in
    let back : cells_of new wide (drop k (without_labels mid)) ≡ cells_of new wide (drop k mid) =
    ap (cells_of new wide) (drop-map unlabelled k mid) ∙ cells-without_labels new wide (drop k mid) in
    let cells : cells_of new wide after ≡ with_run rev run a now =
    sym (cells-without_labels new wide after) ∙ ap (cells_of new wide) put_is
    ∙ cells-insert new wide (without_labels mid) k (unlabelled nb)
    ∙ ap₂ (λ x y. x ++ (block_cells new wide nb ++ y)) front back
    ∙ ap (λ l. cells_of new wide (take k mid) ++ (l ++ cells_of new wide (drop k mid))) new_is
    ∙ sym (place new wide mid_wide (new_cells rev run a))
    ∙ ap (put character_of run.after run.first (new_cells rev run a)) base
    ∙ sym (with_run-put rev run a now (subst IsInOrder is s.order) may)
    in (
      record {
        kept = kept;
        within = after_within;
        full =
            length_wide ∙ ap₂ (λ x y. x + y) (s.full ∙ sym (length-cells old text bs s.within)
            ∙ ap length (sym (same.cells new text w.0 ∙ w.1)) ∙ length-cells new text mid mid_within
            ∙ sym (sum-without_labels mid)) (sym len_is)
            ∙ sym (sum_by-insert (λ (x : Block). x.len) (without_labels mid) k (unlabelled nb))
            ∙ ap (sum_by (λ (x : Block). x.len)) (sym put_is) ∙ sum-without_labels after;
        order = subst IsInOrder (sym cells) (IsInOrder-with_run rev run a now (subst IsInOrder is s.order) may);
        dated = subst (AllByRecursion (IsBy most)) (sym cells)
            (run_by rev most run a now rev_is (subst IsInOrder is s.order)
            (later_by latest most now latest_is (subst (AllByRecursion (IsBy latest)) is s.dated)) may);
        newest = ap clock_of cells ∙ clock-with_run rev run a now (subst IsInOrder is s.order) may some
            ∙ ap₂ max (sym (ap clock_of is) ∙ s.newest) (sym last_is);
      },
      cells,
    )

-- no blocks stand for no cells
pub nothing_kept : (authors : List Author) (text : List ℕ) (m : Index) (bs : List Block) → bs ≡ [] → text ≡ [] →
    m ≡ Rattle.std.specs.FinMap.empty → IsBlockSeq 0 0 authors text m bs
nothing_kept authors text m bs none blank new = rw (none, blank, new) (record {
  kept = record {
    listed = record { index = λ s. Rattle.std.specs.FinMap.get-empty Rattle.ident_index.specs.Index.stamp_cmp s; apart = tt; sized = tt; small = omega arith };
    rises = omega arith;
  };
  within = tt;
  full = refl;
  order = record { tree = record { distinct = Rattle.pad_model.proofs.Rising.IsDistinct-nil character_of; rooted = tt; later = tt }; is = refl };
  dated = tt;
  newest = refl;
})

-- the same where the authors stay
pub same_cells_kept : {latest clock : ℕ} (authors : List Author) (text : List ℕ) (m n : Index) (bs after : List Block) →
    IsBlockSeq latest clock authors text m bs → IsKept n after → SameCells bs after
    → IsBlockSeq latest clock authors text n after × (cells_of authors text after ≡ cells_of authors text bs)
same_cells_kept authors text m n bs after s kept same =
    unchanged authors authors (record { name = []; origin = 0 }) text m n bs after s (inl refl) kept same

pub delete-ok : (rev : ℕ) (spans : List Span) (now : List Cell) → has_spans character_of now spans ≡ true →
    delete_spans rev spans now ≡ (Ok (count_by (is_hidden_by spans) now), without_spans rev spans now)
delete-ok rev spans now e = rw e refl
