-- The loop of `read_text`: the text read so far and the text of the blocks to come are the whole text.
use Rattle.std.proofs.Common.{◌≡◌, ◌++◌, flat_map, length}
use Rattle.std.specs.List.{AllByRecursion}
use Rattle.blocks.specs.Cells.{IsWithin}
use Rattle.block_seq.specs.Rows.{shown_stretch}
use Rattle.block_seq.proofs.row_readers.read_text.Given as goal

-- what was read and what is still to come
abbrev pub invariant-loop-block : goal.invariant-loop-block
invariant-loop-block l = record {
  read : l.shown.items ++ flat_map (shown_stretch l.rev l.text) l.block-iterator
      ≡ flat_map (shown_stretch l.rev l.text) l.tree.items;
  within : AllByRecursion (IsWithin l.authors (length l.text)) l.block-iterator;
}
