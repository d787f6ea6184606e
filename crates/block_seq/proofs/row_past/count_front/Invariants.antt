-- The loop of `count_front`: the number that is looked for lies between the bounds, which approach each other.
use Rattle.std.proofs.Common.{◌≡◌, ◌-◌, ◌≤◌, Some, slice_get, sum_by}
use Rattle.blocks.specs.declared.block.Block.{Block}
use Rattle.block_seq.specs.RowLists.{shown_front}
use Rattle.block_seq.specs.Rows.{shown_len}
use Rattle.block_seq.proofs.row_past.count_front.Given as goal

-- the number lies from low to high
abbrev pub invariant-loop-low : goal.invariant-loop-low
invariant-loop-low l = record {
  between : (b : Block) → slice_get l.row.tree.now.items l.spot.rank ≡ Some b →
      (l.low ≤ shown_front l.rev l.row.tree.now.items l.spot.rank l.spot.offset b)
      × (shown_front l.rev l.row.tree.now.items l.spot.rank l.spot.offset b ≤ l.high);
  top : l.high ≤ sum_by (shown_len l.rev) l.row.tree.now.items;
}

abbrev pub decreases-loop-low : goal.decreases-loop-low
decreases-loop-low l = l.high - l.low
