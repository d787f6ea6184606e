-- The loop of `walk_pieces`: the pieces are those of the blocks so far, and these with those to come are all.
use Rattle.std.proofs.Common.{◌≡◌, ◌+◌, ◌≤◌, ◌++◌, List, flat_map, length, sum_by}
use Rattle.std.specs.List.{AllByRecursion}
use Rattle.pad_model.specs.Pieces.{fewest, old_len}
use Rattle.pad_model.specs.declared.piece.Piece.{Piece}
use Rattle.pad_model.specs.declared.limits.TheConstants.{MAX_CHARACTERS}
use Rattle.blocks.specs.Cells.{IsWithin}
use Rattle.block_seq.specs.PieceLists.{block_pieces}
use Rattle.block_seq.proofs.row_pieces.walk_pieces.Given as goal

-- the pieces are those of the blocks so far, and these and those to come are all
abbrev pub invariant-loop-block : goal.invariant-loop-block
invariant-loop-block l = record {
  done : List Piece;
  pieces : l.pieces.items ≡ fewest done;
  all : done ++ flat_map (block_pieces l.rev l.to l.row.authors.now l.row.text.now) l.block-iterator
      ≡ flat_map (block_pieces l.rev l.to l.row.authors.now l.row.text.now) l.row.tree.now.items;
  within : AllByRecursion (IsWithin (length l.row.authors.now) (length l.row.text.now)) l.block-iterator;
  small : sum_by old_len l.pieces.items + sum_by (λ b. b.len) l.block-iterator ≤ MAX_CHARACTERS;
}
