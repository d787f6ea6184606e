-- The loop of `cut_parents`: the blocks are cut behind the parents of the runs passed so far, and no character changed.
use Rattle.std.proofs.Common.{◌≤◌, ◌+◌, length, take}
use Rattle.std.specs.List.{AllByRecursion}
use Rattle.blocks.specs.Blocks.{IsKept, KeepsEdges}
use Rattle.blocks.specs.Cells.{SameCells}
use Rattle.block_seq.specs.RowParts.{IsCutBehind}
use Rattle.block_seq.proofs.run_place.cut_parents.Given as goal

-- the blocks are cut behind the parents of the runs so far
abbrev pub invariant-loop-run : goal.invariant-loop-run
invariant-loop-run l = record {
  kept : IsKept l.index l.tree.items;
  cells : SameCells l.initial.tree.items l.tree.items;
  edges : KeepsEdges l.initial.index l.index;
  cut : AllByRecursion (λ run. IsCutBehind l.index run.now.after) (take l.run-index l.runs);
  more : length l.tree.items ≤ length l.initial.tree.items + l.run-index;
}
