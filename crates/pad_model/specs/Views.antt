-- A cell that is lent to a caller.
use Rattle.std.specs.Prelude.{◌≡◌, Option, Some, None}
use Rattle.pad_model.specs.Cell.{Cell}
use Rattle.pad_model.specs.declared.sequence.CellView.{CellView}

-- the lent cell, if there is one, is this one
abbrev pub IsViewOf : Option CellView → Option Cell → Type 0
IsViewOf None None = Unit {0}
IsViewOf None (Some cell) = ⊥
IsViewOf (Some view) None = ⊥
IsViewOf (Some view) (Some cell) =
    cell ≡ record {
      stamp = view.stamp;
      parent = view.parent;
      character = view.character;
      author = view.author.now;
      born = view.born;
      died = view.died;
    }
