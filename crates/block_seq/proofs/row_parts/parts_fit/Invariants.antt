-- The loop of `parts_fit`: the parts passed so far fit the cells of the blocks.
use Rattle.std.proofs.Common.{◌≡◌, ℕ, List, length, drop}
use Rattle.std.specs.List.{list_all, AllByRecursion}
use Rattle.pad_model.specs.Cell.{character_of}
use Rattle.pad_model.specs.Parts.{part_fits}
use Rattle.pad_model.specs.declared.who.Author.{Author}
use Rattle.blocks.specs.Cells.{cells_of, IsWithin}
use Rattle.block_seq.proofs.row_parts.parts_fit.Given as goal

-- the parts so far fit
abbrev pub invariant-loop-part : goal.invariant-loop-part
invariant-loop-part l =
    (authors : List Author) (text : List ℕ) → AllByRecursion (IsWithin (length authors) (length text)) l.tree.items →
    list_all (part_fits character_of (cells_of authors text l.tree.items)) (drop l.part-index l.parts)
    ≡ list_all (part_fits character_of (cells_of authors text l.tree.items)) l.parts
