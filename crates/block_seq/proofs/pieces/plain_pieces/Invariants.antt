-- The loop of `plain_pieces`: the pieces are those of the cells so far, and these with those to come are all.
use Rattle.std.proofs.Common.{◌≡◌, ◌≤◌, ◌++◌, List, drop, flat_map, sum_by}
use Rattle.pad_model.specs.Pieces.{piece_of, fewest, old_len}
use Rattle.pad_model.specs.declared.piece.Piece.{Piece}
use Rattle.block_seq.specs.Plain.{cells_of}
use Rattle.block_seq.proofs.pieces.plain_pieces.Given as goal

-- the pieces are those of the cells so far, and these and those to come are all
abbrev pub invariant-loop-cell : goal.invariant-loop-cell
invariant-loop-cell l = record {
  done : List Piece;
  pieces : l.pieces.items ≡ fewest done;
  all : done ++ flat_map (piece_of l.rev l.to) (cells_of l.authors (drop l.cell-index l.cells))
      ≡ flat_map (piece_of l.rev l.to) (cells_of l.authors l.cells);
  small : sum_by old_len l.pieces.items ≤ l.cell-index;
}
