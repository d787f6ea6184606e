-- Two views of a sequence of blocks that are equal.
use Rattle.std.proofs.Common.{◌≡◌, ap}
use Rattle.block_seq.specs.Rows.{CellsInBlocks}

-- the cells of one view are those of another that equals it
pub cells_seen : {v w : CellsInBlocks} → v ≡ w → v.cells ≡ w.cells
cells_seen e = ap (λ (x : CellsInBlocks). x.cells) e

-- and so is the number of its blocks
pub blocks_seen : {v w : CellsInBlocks} → v ≡ w → v.blocks ≡ w.blocks
blocks_seen e = ap (λ (x : CellsInBlocks). x.blocks) e
