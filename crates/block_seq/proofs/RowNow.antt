-- What the last revision that changed something and the greatest counter tell of the blocks.
use Rattle.std.proofs.Common.{◌≡◌, ℕ, zero, suc, ◌+◌, ◌-◌, ◌≤◌, true, cond, ◌&&◌, max, List, [], ◌∷◌, ◌++◌, length}
use Rattle.std.proofs.Common.{take, map, fold, sum_by, Option, Some, None, is_none, refl, sym, ap₂, ◌∙◌, arith, nat_le}
use Rattle.std.proofs.Common.{le-leb, le-ltb}
use Rattle.std.specs.List.{AllByRecursion}
use Rattle.std.proofs.lemmas.List.Sums.{sum_by-cons}
use Rattle.std.proofs.lemmas.List.Sorted.{IsPermutation-sym}
use Rattle.pad_model.specs.Cell.{Cell, IsBy, IsInOrder, born_at, character_of, clock_of, new_cells, with_run, is_after}
use Rattle.pad_model.specs.Cell.{is_hidden_by, without_spans}
use Rattle.pad_model.specs.Character.{next, run_characters}
use Rattle.pad_model.specs.Log.{run_may_join}
use Rattle.pad_model.specs.Stamp.{Stamp}
use Rattle.pad_model.specs.declared.op.Run.{Run}
use Rattle.pad_model.specs.declared.op.Span.{Span}
use Rattle.pad_model.specs.declared.who.Author.{Author}
use Rattle.pad_model.proofs.Cells.{RunMayJoin-from_test, IsRun-new_cells}
use Rattle.pad_model.proofs.Each.{each-append, each-imply, each-permutation}
use Rattle.pad_model.proofs.Members.{order-permutation}
use Rattle.pad_model.proofs.Newer.{split}
use Rattle.pad_model.proofs.Runs.{IsTree-run}
use Rattle.blocks.specs.declared.block.Block.{Block}
use Rattle.blocks.specs.Blocks.{IsSized, weight_of}
use Rattle.blocks.specs.Cells.{author_at, run_cells, stretch, block_cells, cells_of, IsWithin}
use Rattle.block_seq.specs.Rows.{IsDated, shown_len}
use Rattle.block_seq.proofs.BlockCells.{length-stretch}

-- ---- dates of cells
new_by : (rev : ℕ) (first : Stamp) (p : Option Stamp) (text : List ℕ) (author : Author) →
    AllByRecursion (IsBy rev) (map (born_at rev) (run_characters first p text author))
new_by rev first p [] author = tt
new_by rev first p (c ∷ text) author = (
  (omega arith, λ died e. absurd (cc)),
  new_by rev (next first) (Some first) text author,
)

pub later_by : (latest rev : ℕ) (cells : List Cell) → latest ≤ rev → AllByRecursion (IsBy latest) cells →
    AllByRecursion (IsBy rev) cells
later_by latest rev cells l h = each-imply (IsBy latest) (IsBy rev)
    (λ c k. (
      let b : c.born ≤ latest = k.0 in omega arith,
      λ died e. (let d : died ≤ latest = k.1 died e in
          omega arith),
    )) cells h

pub run_by : (rev latest : ℕ) (run : Run) (author : Author) (cells : List Cell) → rev ≤ latest → IsInOrder cells →
    AllByRecursion (IsBy latest) cells → run_may_join character_of cells run.first run.after ≡ true →
    AllByRecursion (IsBy latest) (with_run rev run author cells)
run_by rev latest run author cells l o h joins =
    each-permutation (IsBy latest) (cells ++ new_cells rev run author) (with_run rev run author cells)
    (order-permutation character_of (cells ++ new_cells rev run author)
    (IsTree-run character_of cells run.first run.after (new_cells rev run author) o.tree
    (RunMayJoin-from_test character_of cells run.first run.after joins)
    (IsRun-new_cells rev run.first run.after run.text author)))
    (each-append (IsBy latest) cells (new_cells rev run author) h (later_by rev latest (new_cells rev run author) l
    (new_by rev run.first run.after run.text author)))

pub erased_by : (rev latest : ℕ) (spans : List Span) (cells : List Cell) → rev ≤ latest →
    AllByRecursion (IsBy latest) cells → AllByRecursion (IsBy latest) (without_spans rev spans cells)
erased_by rev latest spans [] l h = tt
erased_by rev latest spans (c ∷ cells) l h = (
  split (is_hidden_by spans c) (λ e. rw e (h.0.0, λ died is. (let same : rev ≡ died = cc in omega arith)))
      (λ e. rw e h.0),
  erased_by rev latest spans cells l h.1,
)

-- ---- dates of blocks
both_parts : {A : Type 0} (P : A → Type 0) (xs ys : List A) → AllByRecursion P (xs ++ ys) → AllByRecursion P xs
    × AllByRecursion P ys
both_parts P [] ys h = (tt, h)
both_parts P (x ∷ xs) ys h = let rest = both_parts P xs ys h.1 in ((h.0, rest.0), rest.1)

first_by : (latest : ℕ) (author : Author) (born : ℕ) (died : Option ℕ) (first : Stamp) (p : Option Stamp)
    (text : List ℕ) → 1 ≤ length text → AllByRecursion (IsBy latest) (run_cells author born died first p text) →
    (born ≤ latest) × ((d : ℕ) → died ≡ Some d → d ≤ latest)
first_by latest author born died first p [] l h = absurd (omega arith)
first_by latest author born died first p (c ∷ text) l h = h.0

pub dated_blocks : (latest : ℕ) (authors : List Author) (text : List ℕ) (bs : List Block) →
    AllByRecursion (IsWithin (length authors) (length text)) bs → AllByRecursion IsSized bs →
    AllByRecursion (IsBy latest) (cells_of authors text bs) → AllByRecursion (IsDated latest) bs
dated_blocks latest authors text [] w z h = tt
dated_blocks latest authors text (b ∷ bs) w z h =
    let parts = both_parts (IsBy latest) (block_cells authors text b) (cells_of authors text bs) h in
    let size = length-stretch text b w.0.1 in
    let some = z.0.0 in (
      first_by latest (author_at authors b.author) b.born b.died b.first b.parent (stretch text b) (omega arith) parts.0,
      dated_blocks latest authors text bs w.1 z.1 parts.1,
    )

-- ---- at a revision that is not before the last, a block shows what is alive
pub alive_shown : (born len latest rev : ℕ) (died : Option ℕ) → latest ≤ rev → born ≤ latest →
    ((d : ℕ) → died ≡ Some d → d ≤ latest) → cond (nat_le born rev && is_after rev died) len 0
    ≡ cond (is_none died) len 0
alive_shown born len latest rev None l b d = rw (le-leb born rev (omega arith)) refl
alive_shown born len latest rev (Some x) l b d =
    let before : x ≤ latest = d x refl in
    split (nat_le born rev) (λ e. rw (e, le-ltb rev x (omega arith)) refl) (λ e. rw e refl)

pub shown_now : (latest rev : ℕ) (b : Block) → latest ≤ rev → IsDated latest b → shown_len rev b ≡ weight_of b
shown_now latest rev b l d = alive_shown b.born b.len latest rev b.died l d.0 d.1

pub front_now : (latest rev : ℕ) (bs : List Block) (i : ℕ) → latest ≤ rev → AllByRecursion (IsDated latest) bs →
    sum_by (shown_len rev) (take i bs) ≡ sum_by weight_of (take i bs)
front_now latest rev [] zero l d = refl
front_now latest rev [] (suc i) l d = refl
front_now latest rev (b ∷ bs) zero l d = refl
front_now latest rev (b ∷ bs) (suc i) l d =
    sum_by-cons (shown_len rev) b (take i bs) ∙ ap₂ (λ m n. m + n) (shown_now latest rev b l d.0)
    (front_now latest rev bs i l d.1) ∙ sym (sum_by-cons weight_of b (take i bs))

-- ---- the greatest counter
clock_bound : (most low : ℕ) (cells : List Cell) → low ≤ most → AllByRecursion (λ c. c.stamp.counter ≤ most) cells →
    fold (λ m (c : Cell). max m c.stamp.counter) low cells ≤ most
clock_bound most low [] l h = l
clock_bound most low (c ∷ cells) l h = let first = h.0 in clock_bound most (max low c.stamp.counter) cells
    (omega (arith, l, first)) h.1

clock_least : (low : ℕ) (cells : List Cell) → low ≤ fold (λ m (c : Cell). max m c.stamp.counter) low cells
clock_least low [] = omega arith
clock_least low (c ∷ cells) = let rest = clock_least (max low c.stamp.counter) cells in omega (arith, rest)

bound_clock : (low : ℕ) (cells : List Cell) →
    AllByRecursion (λ c. c.stamp.counter ≤ fold (λ m (x : Cell). max m x.stamp.counter) low cells) cells
bound_clock low [] = tt
bound_clock low (c ∷ cells) = let least = clock_least (max low c.stamp.counter) cells in
    (omega (arith, least), bound_clock (max low c.stamp.counter) cells)

new_low : (rev : ℕ) (first : Stamp) (p : Option Stamp) (text : List ℕ) (author : Author) (most : ℕ) → first.counter
    + length text ≤ most + 1 → AllByRecursion (λ c. c.stamp.counter ≤ most)
    (map (born_at rev) (run_characters first p text author))
new_low rev first p [] author most h = tt
new_low rev first p (c ∷ text) author most h =
    (omega arith, new_low rev (next first) (Some first) text author most (omega arith))

new_last : (rev : ℕ) (first : Stamp) (p : Option Stamp) (text : List ℕ) (author : Author) (most : ℕ) → 1 ≤ length text →
    AllByRecursion (λ c. c.stamp.counter ≤ most) (map (born_at rev) (run_characters first p text author)) →
    first.counter + (length text - 1) ≤ most
new_last rev first p [] author most l h = absurd (omega arith)
new_last rev first p (c ∷ []) author most l h = let here = h.0 in omega (arith, here)
new_last rev first p (c ∷ x ∷ text) author most l h = let rest = new_last rev (next first) (Some first)
    (x ∷ text) author most (omega arith) h.1 in omega (arith, rest)

pub clock-with_run : (rev : ℕ) (run : Run) (author : Author) (cells : List Cell) → IsInOrder cells →
    run_may_join character_of cells run.first run.after ≡ true → 1 ≤ length run.text
    → clock_of (with_run rev run author cells) ≡ max (clock_of cells) (run.first.counter + (length run.text - 1))
clock-with_run rev run author cells o joins some =
    let new = new_cells rev run author in
    let after = with_run rev run author cells in
    let last = run.first.counter + (length run.text - 1) in
    let most = max (clock_of cells) last in
    let all = order-permutation character_of (cells ++ new)
    (IsTree-run character_of cells run.first run.after new o.tree
    (RunMayJoin-from_test character_of cells run.first run.after joins)
    (IsRun-new_cells rev run.first run.after run.text author)) in
    let under : clock_of after ≤ most = clock_bound most 0 after (omega arith)
    (each-permutation (λ c. c.stamp.counter ≤ most) (cells ++ new) after all
    (each-append (λ c. c.stamp.counter ≤ most) cells new
    (each-imply (λ c. c.stamp.counter ≤ clock_of cells) (λ c. c.stamp.counter ≤ most) (λ c h. omega arith) cells
    (bound_clock 0 cells))
    (new_low rev run.first run.after run.text author most (omega arith))))
    in
    let back = both_parts (λ c. c.stamp.counter ≤ clock_of after) cells new
    (each-permutation (λ c. c.stamp.counter ≤ clock_of after) after (cells ++ new)
    (IsPermutation-sym (cells ++ new) after all) (bound_clock 0 after)) in
    let over = clock_bound (clock_of after) 0 cells (omega arith) back.0 in
    let end = new_last rev run.first run.after run.text author (clock_of after) some back.1 in
    omega (arith, under, over, end)

pub clock-erased : (rev low : ℕ) (spans : List Span) (cells : List Cell) →
    fold (λ m (c : Cell). max m c.stamp.counter) low (without_spans rev spans cells)
    ≡ fold (λ m (c : Cell). max m c.stamp.counter) low cells
clock-erased rev low spans [] = refl
clock-erased rev low spans (c ∷ cells) =
    let rest = clock-erased rev (max low c.stamp.counter) spans cells in
    split (is_hidden_by spans c) (λ e. rw e rest) (λ e. rw e rest)
