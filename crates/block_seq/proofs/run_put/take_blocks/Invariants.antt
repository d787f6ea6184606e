-- The loop of `take_blocks`: the blocks of the ranks from here on are taken out, and the loop ends.
use Rattle.std.proofs.Common.{◌≡◌, ◌≤◌, length, take}
use Rattle.blocks.specs.Blocks.{IsKept, without_labels}
use Rattle.block_seq.specs.RowParts.{AreRanks, without_ranks}
use Rattle.block_seq.proofs.run_put.take_blocks.Given as goal

-- the ranks from here on are taken
abbrev pub invariant-loop-left : goal.invariant-loop-left
invariant-loop-left l = record {
  within : l.left ≤ length l.ranks;
  kept : IsKept l.index l.tree.items;
  ranks : AreRanks (without_labels l.tree.items) (take l.left l.ranks);
  taken : without_ranks (without_labels l.tree.items) (take l.left l.ranks)
      ≡ without_ranks (without_labels l.initial.tree.items) l.ranks;
}

abbrev pub decreases-loop-left : goal.decreases-loop-left
decreases-loop-left l = l.left
