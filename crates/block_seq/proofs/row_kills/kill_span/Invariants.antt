-- The loop of `kill_span`: the blocks passed so far are dead and counted, and the next stamp begins a block.
use Rattle.std.proofs.Common.{◌≡◌, ◌-◌, ◌≤◌, map, sum_by}
use Rattle.ident_index.specs.Index.{stamp_behind}
use Rattle.blocks.specs.Blocks.{IsKept, IsEdge}
use Rattle.std.specs.List.{AllByRecursion}
use Rattle.std.specs.Prelude.{◌+◌, vec_len, vec_capacity}
use Rattle.block_seq.specs.RowAuthors.{Hides}
use Rattle.block_seq.specs.RowSlides.{IsSlid, live_blocks}
use Rattle.block_seq.specs.Rows.{IsDated, killed, hidden_len, span_from}
use Rattle.block_seq.proofs.row_kills.kill_span.Given as goal

-- the blocks of the stamps that were passed are dead, and the next stamp begins a block
abbrev pub invariant-loop-done : goal.invariant-loop-done
invariant-loop-done l = record {
  kept : IsKept l.index l.tree.items;
  within : l.done ≤ l.span.len;
  begins : IsEdge l.index (stamp_behind l.span.first l.done);
  slid : IsSlid l.slides.items l.tree.items;
  authors : Hides l.initial.slides.items l.slides.items l.initial.tree.items l.tree.items;
  dated : AllByRecursion (IsDated l.rev) l.tree.items;
  spent : vec_len l.slides + live_blocks l.tree.items ≡ vec_len l.initial.slides + live_blocks l.initial.tree.items;
  few : vec_len l.slides ≤ vec_len l.initial.slides + l.done;
  capacity : vec_capacity l.slides ≡ vec_capacity l.initial.slides;
  items : l.tree.items ≡ map (killed l.rev (span_from l.span.first l.done)) l.initial.tree.items;
  hidden : l.hidden ≡ sum_by (hidden_len (span_from l.span.first l.done)) l.initial.tree.items;
}

abbrev pub decreases-loop-done : goal.decreases-loop-done
decreases-loop-done l = l.span.len - l.done
