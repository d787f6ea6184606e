-- What the plain sequence keeps.
use Rattle.std.specs.Prelude.{ℕ, ◌<◌, List, [], ◌∷◌, length, map, slice_index_or, Option, Some, None, Bool, ◌&&◌}
use Rattle.std.specs.Prelude.{nat_le, if◌then◌else◌, is_none, flat_map}
use Rattle.std.specs.List.{AllByRecursion}
use Rattle.pad_model.specs.Cell.{Cell, IsInOrder, character_of, is_after}
use Rattle.pad_model.specs.Character.{Character, next}
use Rattle.pad_model.specs.Operation.{span_stamps}
use Rattle.pad_model.specs.Stamp.{Stamp}
use Rattle.pad_model.specs.Visible.{is_erased}
use Rattle.pad_model.specs.declared.op.Span.{Span}
use Rattle.pad_model.specs.declared.who.Author.{Author}
use Rattle.block_seq.specs.declared.place.PlainCell.{PlainCell}

-- the author at a place of the list
abbrev pub author_at : List Author → ℕ → Author
author_at authors i = slice_index_or authors i (record { name = []; origin = 0 })

-- the cell that a kept one stands for
abbrev pub cell_of : List Author → PlainCell → Cell
cell_of authors c = record {
  stamp = c.stamp;
  parent = c.parent;
  character = c.character;
  author = author_at authors c.author;
  born = c.born;
  died = c.died;
}

-- the cells that the kept ones stand for
abbrev pub cells_of : List Author → List PlainCell → List Cell
cells_of authors cells = map (cell_of authors) cells

-- the character of a kept cell, its author left out
abbrev pub kept_character : PlainCell → Character
kept_character c = character_of (cell_of [] c)

-- each cell's author is in the list
abbrev pub AreKnown : List Author → List PlainCell → Type 0
AreKnown authors cells = AllByRecursion (λ c. c.author < length authors) cells

-- the authors are known, and the cells stand in preorder
pub record IsPlain (authors : List Author) (cells : List PlainCell) : Type 0 where
  pub known : AreKnown authors cells
  pub order : IsInOrder (cells_of authors cells)

-- whether a kept cell is visible at a revision
abbrev pub is_shown : ℕ → PlainCell → Bool
is_shown rev c = nat_le c.born rev && is_after rev c.died

-- the kept cells of a run
abbrev pub kept_run : Stamp → Option Stamp → List ℕ → ℕ → ℕ → List PlainCell
kept_run first parent [] author rev = []
kept_run first parent (c ∷ text) author rev =
    record {
      stamp = first;
      parent = parent;
      character = c;
      author = author;
      born = rev;
      died = None;
    }
    ∷ kept_run (next first) (Some first) text author rev

-- whether a deletion of these spans newly hides a kept cell
abbrev pub is_hidden_by : List Span → PlainCell → Bool
is_hidden_by spans c = is_erased (flat_map span_stamps spans) c.stamp && is_none c.died

-- a kept cell after a deletion
abbrev pub erased_at : ℕ → List Span → PlainCell → PlainCell
erased_at rev spans c = if is_hidden_by spans c then record c { died = Some rev } else c
