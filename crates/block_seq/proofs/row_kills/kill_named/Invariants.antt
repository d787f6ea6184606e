-- The loop of `kill_named`: the blocks of the spans passed so far are dead and counted, and the row stays in order.
use Rattle.std.proofs.Common.{◌≡◌, take, map, sum_by}
use Rattle.blocks.specs.Blocks.{IsKept}
use Rattle.std.specs.List.{AllByRecursion}
use Rattle.std.specs.Prelude.{◌+◌, ◌≤◌, vec_len, vec_capacity}
use Rattle.block_seq.specs.RowAuthors.{Hides}
use Rattle.block_seq.specs.RowSlides.{IsSlid, live_blocks, named_len}
use Rattle.block_seq.specs.Rows.{IsDated, killed, hidden_len}
use Rattle.block_seq.proofs.row_kills.kill_named.Given as goal

-- the blocks of the spans so far are dead
abbrev pub invariant-loop-span : goal.invariant-loop-span
invariant-loop-span l = record {
  kept : IsKept l.index l.tree.items;
  slid : IsSlid l.slides.items l.tree.items;
  authors : Hides l.initial.slides.items l.slides.items l.initial.tree.items l.tree.items;
  dated : AllByRecursion (IsDated l.rev) l.tree.items;
  spent : vec_len l.slides + live_blocks l.tree.items ≡ vec_len l.initial.slides + live_blocks l.initial.tree.items;
  few : vec_len l.slides ≤ vec_len l.initial.slides + named_len (take l.span-index l.spans);
  capacity : vec_capacity l.slides ≡ vec_capacity l.initial.slides;
  items : l.tree.items ≡ map (killed l.rev (take l.span-index l.spans)) l.initial.tree.items;
  hidden : l.hidden ≡ sum_by (hidden_len (take l.span-index l.spans)) l.initial.tree.items;
}
