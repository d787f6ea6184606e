-- The loop of `put_runs`: the runs passed so far are put, the others may be, and the ranks lead back.
use Rattle.std.proofs.Common.{◌≡◌, ◌+◌, ◌≤◌, true, List, length, map, drop, take, sum_by, vec_len, vec_capacity}
use Rattle.std.specs.List.{AllByRecursion, list_all}
use Rattle.pad_model.specs.Cell.{character_of}
use Rattle.pad_model.specs.Checked.{is_span}
use Rattle.pad_model.specs.Log.{has_spans}
use Rattle.pad_model.specs.declared.op.Span.{Span}
use Rattle.blocks.specs.Blocks.{without_labels}
use Rattle.blocks.specs.Cells.{author_at, cells_of}
use Rattle.block_seq.specs.RowParts.{AreRanks, MayPut, without_ranks}
use Rattle.pad_model.specs.Parts.{with_all}
use Rattle.block_seq.specs.RowAuthors.{Shows}
use Rattle.block_seq.specs.Rows.{IsCutOut}
use Rattle.block_seq.specs.RowSlides.{IsSlidRow, live_blocks}
use Rattle.block_seq.proofs.run_put.put_runs.Given as goal

-- the runs so far are put, the others may be, and their ranks lead back
abbrev pub invariant-loop-run : goal.invariant-loop-run
invariant-loop-run l =
    let authors = l.batch.authors.now in
    let author = author_at authors l.batch.author in
    let cells = cells_of authors l.text.items l.tree.items in
    let first_cells = cells_of authors l.initial.text.items l.initial.tree.items in record {
      row : IsSlidRow l.batch.rev l.clock authors l.text.items l.slides.items l.index l.tree.items;
      may : MayPut l.batch.rev author cells l.index (map (λ run. run.now) (drop l.run-index l.runs));
      all : with_all l.batch.rev author cells (map (λ run. run.now) (drop l.run-index l.runs))
          ≡ with_all l.batch.rev author first_cells (map (λ run. run.now) l.runs);
      cut : (spans : List Span) → has_spans character_of first_cells spans ≡ true → list_all is_span spans ≡ true →
          AllByRecursion (IsCutOut l.initial.index) spans → (has_spans character_of cells spans ≡ true)
          × AllByRecursion (IsCutOut l.index) spans;
      ranks : AreRanks (without_labels l.tree.items) l.ranks.items;
      back : without_ranks (without_labels l.tree.items) l.ranks.items ≡ without_labels l.initial.tree.items;
      ranks_len : vec_len l.ranks ≡ l.run-index;
      ranks_room : length l.runs ≤ vec_capacity l.ranks;
      text : take (length l.initial.text.items) l.text.items ≡ l.initial.text.items;
      text_room : vec_len l.text + sum_by (λ run. length run.now.text) (drop l.run-index l.runs) ≤ vec_capacity l.text;
      slides : take (length l.initial.slides.items) l.slides.items ≡ l.initial.slides.items;
      slides_len : vec_len l.slides ≡ vec_len l.initial.slides + l.run-index;
      slides_room : vec_capacity l.slides ≡ vec_capacity l.initial.slides;
      authors : Shows l.batch.author l.initial.slides.items l.slides.items l.initial.tree.items l.tree.items;
      live : live_blocks l.tree.items ≤ live_blocks l.initial.tree.items + l.run-index;
      more : length l.tree.items ≤ length l.initial.tree.items + l.run-index;
    }
