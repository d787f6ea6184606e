-- The cells that blocks represent, over one text and one list of authors.
use Rattle.std.specs.Prelude.{◌≡◌, ℕ, ◌+◌, ◌≤◌, ◌<◌, List, [], ◌∷◌, length, flat_map, take, drop, slice_index_or}
use Rattle.std.specs.Prelude.{Option, Some}
use Rattle.std.specs.List.{AllByRecursion}
use Rattle.pad_model.specs.Cell.{Cell}
use Rattle.pad_model.specs.Character.{next}
use Rattle.pad_model.specs.Stamp.{Stamp}
use Rattle.pad_model.specs.declared.who.Author.{Author}
use Rattle.blocks.specs.declared.block.Block.{Block}

-- the author at a place of the list
abbrev pub author_at : List Author → ℕ → Author
author_at authors i = slice_index_or authors i (record { name = []; origin = 0 })

-- the cells of a text that was inserted at once
abbrev pub run_cells : Author → ℕ → Option ℕ → Stamp → Option Stamp → List ℕ → List Cell
run_cells author born died first parent [] = []
run_cells author born died first parent (c ∷ text) =
    record {
      stamp = first;
      parent = parent;
      character = c;
      author = author;
      born = born;
      died = died;
    }
    ∷ run_cells author born died (next first) (Some first) text

-- the characters of a block
abbrev pub stretch : List ℕ → Block → List ℕ
stretch text b = take b.len (drop b.start text)

-- the cells of a block
abbrev pub block_cells : List Author → List ℕ → Block → List Cell
block_cells authors text b = run_cells (author_at authors b.author) b.born b.died b.first b.parent
    (stretch text b)

-- the cells of all blocks, in order
abbrev pub cells_of : List Author → List ℕ → List Block → List Cell
cells_of authors text bs = flat_map (block_cells authors text) bs

-- the author of a block is in a list of this length, and its stretch in a text of this length
abbrev pub IsWithin : ℕ → ℕ → Block → Type 0
IsWithin authors text b = (b.author < authors) × (b.start + b.len ≤ text)

-- two rows of blocks represent the same cells, whatever the text
pub record SameCells (old new : List Block) : Type 0 where
  pub within : (authors text : ℕ) → AllByRecursion (IsWithin authors text) old →
      AllByRecursion (IsWithin authors text) new
  pub cells : (authors : List Author) (text : List ℕ)
      → AllByRecursion (IsWithin (length authors) (length text)) old →
      cells_of authors text new ≡ cells_of authors text old
