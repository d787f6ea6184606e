-- The loop of `read_pieces`: the pieces are those of the blocks so far, and the touched ones behind are to come.
use Rattle.std.proofs.Common.{◌≡◌, ℕ, ◌≤◌, ◌<◌, true, Some, get_or, min, length, slice_get}
use Rattle.blocks.specs.declared.block.Block.{Block}
use Rattle.text_history.specs.Slides.{since}
use Rattle.block_seq.specs.RowPieces.{is_touched}
use Rattle.block_seq.proofs.RowGaps.{IsSoFar}
use Rattle.block_seq.proofs.row_pieces.read_pieces.Given as goal

-- the pieces are those of the blocks so far, and each touched one behind is among the ranks to come
abbrev pub invariant-loop-index : goal.invariant-loop-index
invariant-loop-index l = record {
  within : l.next ≤ length l.row.tree.now.items;
  so_far : IsSoFar l.rev l.to l.row.authors.now l.row.text.now l.row.tree.now.items l.pieces.items l.next;
  todo : (r : ℕ) (b : Block) → l.next ≤ r → slice_get l.row.tree.now.items r ≡ Some b →
      is_touched (since (min l.rev l.to) l.slides) b.first ≡ true →
      (k : ℕ) × (l.index ≤ k) × (k < length l.ranks.items) × (get_or l.ranks.items k r ≡ r);
}
