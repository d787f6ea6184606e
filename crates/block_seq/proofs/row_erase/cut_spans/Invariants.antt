-- The loop of `cut_spans`: the spans passed so far are cut out of their blocks, and no character changed.
use Rattle.std.proofs.Common.{◌≤◌, ◌+◌, ◌*◌, length, take}
use Rattle.std.specs.List.{AllByRecursion}
use Rattle.blocks.specs.Blocks.{IsKept}
use Rattle.blocks.specs.Cells.{SameCells}
use Rattle.block_seq.specs.Rows.{IsCutOut}
use Rattle.block_seq.proofs.row_erase.cut_spans.Given as goal

-- the spans so far are cut out
abbrev pub invariant-loop-span : goal.invariant-loop-span
invariant-loop-span l = record {
  kept : IsKept l.index l.tree.items;
  cells : SameCells l.initial.tree.items l.tree.items;
  cut : AllByRecursion (IsCutOut l.index) (take l.span-index l.spans);
  more : length l.tree.items ≤ length l.initial.tree.items + 2 * l.span-index;
}
