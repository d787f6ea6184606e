-- The loop of `find_cell`: the place among all cells is the place left among those of the blocks to come.
use Rattle.std.proofs.Common.{◌≡◌, length, slice_get}
use Rattle.std.specs.List.{AllByRecursion}
use Rattle.blocks.specs.Blocks.{IsSized}
use Rattle.blocks.specs.Cells.{IsWithin, cells_of}
use Rattle.block_seq.proofs.row_lists.find_cell.Given as goal

-- the place among all is the place left among those to come
abbrev pub invariant-loop-block : goal.invariant-loop-block
invariant-loop-block l = record {
  place : slice_get (cells_of l.authors l.text l.block-iterator) l.left
      ≡ slice_get (cells_of l.authors l.text l.tree.items) l.place;
  sized : AllByRecursion IsSized l.block-iterator;
  within : AllByRecursion (IsWithin (length l.authors) (length l.text)) l.block-iterator;
}
