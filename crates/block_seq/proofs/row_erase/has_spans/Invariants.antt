-- The loop of `has_spans`: the characters of the spans passed so far are in the blocks.
use Rattle.std.proofs.Common.{◌≡◌, ℕ, List, length}
use Rattle.std.specs.List.{list_all, AllByRecursion}
use Rattle.pad_model.specs.Cell.{character_of}
use Rattle.pad_model.specs.Legal.{has_stamp}
use Rattle.pad_model.specs.Operation.{span_stamps}
use Rattle.pad_model.specs.declared.who.Author.{Author}
use Rattle.blocks.specs.Cells.{cells_of, IsWithin}
use Rattle.std.proofs.Common.{drop}
use Rattle.block_seq.proofs.row_erase.has_spans.Given as goal

-- the spans so far are there
abbrev pub invariant-loop-span : goal.invariant-loop-span
invariant-loop-span l =
    (authors : List Author) (text : List ℕ) → AllByRecursion (IsWithin (length authors) (length text)) l.tree.items →
    list_all (λ span. list_all (λ s. has_stamp character_of (cells_of authors text l.tree.items) s) (span_stamps span))
    (drop l.span-index l.spans) ≡ list_all
    (λ span. list_all (λ s. has_stamp character_of (cells_of authors text l.tree.items) s) (span_stamps span)) l.spans
