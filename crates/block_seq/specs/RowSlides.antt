-- The slides of a row of blocks: what came and went at each revision.
use Rattle.std.specs.Prelude.{ℕ, ◌≤◌, true, List, [], length, flat_map, count_by, sum_by, is_none, if◌then◌else◌}
use Rattle.std.specs.List.{AllByRecursion}
use Rattle.pad_model.specs.Operation.{stamps_from}
use Rattle.pad_model.specs.Stamp.{Stamp}
use Rattle.pad_model.specs.declared.op.Run.{Run}
use Rattle.pad_model.specs.declared.op.Span.{Span}
use Rattle.pad_model.specs.declared.who.Author.{Author}
use Rattle.ident_index.specs.Index.{Index}
use Rattle.blocks.specs.declared.block.Block.{Block}
use Rattle.text_history.specs.Slides.{IsSorted, Leads, since}
use Rattle.text_history.specs.Slide.{Slide}
use Rattle.block_seq.specs.RowLists.{shown_stamps}
use Rattle.block_seq.specs.Rows.{IsBlockSeq, IsDated}

-- the stamps of the characters of a block that is alive
abbrev pub live_stamps : Block → List Stamp
live_stamps b = if is_none b.died then stamps_from b.first b.len else []

-- how many blocks are alive
abbrev pub live_blocks : List Block → ℕ
live_blocks bs = count_by (λ b. is_none b.died) bs

-- how many stamps some spans name, those that two of them name twice
abbrev pub named_len : List Span → ℕ
named_len spans = sum_by (λ span. span.len) spans

-- the slide of a run that comes behind so many visible characters
abbrev pub slide_of : ℕ → ℕ → Run → Slide
slide_of rev at run = record {
  rev = rev;
  at = at;
  first = run.first;
  len = length run.text;
  shows = true;
}

-- the slides rise with the revisions of the blocks, and those after a revision lead from what it shows to what is alive
pub record IsSlid (slides : List Slide) (bs : List Block) : Type 0 where
  pub sorted : IsSorted 0 slides
  pub by : (rev : ℕ) → AllByRecursion (IsDated rev) bs → AllByRecursion (λ s. s.rev ≤ rev) slides
  pub leads : (rev : ℕ) → Leads (since rev slides) (flat_map (shown_stamps rev) bs)
      (flat_map live_stamps bs)

-- what a row keeps, and its slides
pub record IsSlidRow (latest clock : ℕ) (authors : List Author) (text : List ℕ)
    (slides : List Slide) (m : Index)
    (bs : List Block) : Type 0 where
  pub row : IsBlockSeq latest clock authors text m bs
  pub slid : IsSlid slides bs
