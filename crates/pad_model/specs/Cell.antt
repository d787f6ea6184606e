-- The cells of a sequence: its characters in preorder, erased ones included, each with its birth and its death.
use Rattle.std.specs.Prelude.{◌≡◌, ℕ, ◌+◌, ◌≤◌, Bool, true, not, ◌&&◌, ◌==◌, nat_lt, nat_le, if◌then◌else◌, List, ◌++◌}
use Rattle.std.specs.Prelude.{length, Option, Some, None, Result, Ok, Err, map, filter, fold, max, slice_get}
use Rattle.std.specs.Prelude.{option_map, flat_map, is_none, count_by, take, drop}
use Rattle.pad_model.specs.Stamp.{Stamp}
use Rattle.pad_model.specs.Character.{Character, run_characters}
use Rattle.pad_model.specs.Legal.{IsTree}
use Rattle.pad_model.specs.Log.{run_may_join, has_spans, stands_before}
use Rattle.pad_model.specs.Legal.{has_stamp}
use Rattle.pad_model.specs.Operation.{span_stamps}
use Rattle.pad_model.specs.Visible.{is_erased, runs, spans, shown_before, shown_through}
use Rattle.pad_model.specs.declared.op.Span.{Span}
use Rattle.pad_model.specs.declared.who.AuthorRun.{AuthorRun}
use Rattle.pad_model.specs.Order.{order}
use Rattle.pad_model.specs.declared.who.Author.{Author}
use Rattle.pad_model.specs.declared.op.Run.{Run}
use Rattle.pad_model.specs.declared.refusal.Refusal.{Refusal}
use Rattle.pad_model.specs.declared.refusal.Refusal.TheVariants.{PeerFault, PadFull}
use Rattle.pad_model.specs.declared.limits.TheConstants.{MAX_CHARACTERS}

-- a character, the revision that inserted it, and the revision that erased it first, if any
pub record Cell : Type 0 where
  pub stamp : Stamp
  pub parent : Option Stamp
  pub character : ℕ
  pub author : Author
  pub born : ℕ
  pub died : Option ℕ

-- the character of a cell
abbrev pub character_of : Cell → Character
character_of cell = record {
  stamp = cell.stamp;
  parent = cell.parent;
  character = cell.character;
  author = cell.author;
}

-- whether a death comes after a revision; a cell without a death counts as after
abbrev pub is_after : ℕ → Option ℕ → Bool
is_after rev None = true
is_after rev (Some died) = nat_lt rev died

-- whether a cell is visible at a revision: it is born by then, and not yet dead
abbrev pub shown_at : ℕ → Cell → Bool
shown_at rev cell = nat_le cell.born rev && is_after rev cell.died

-- the cells that are visible at a revision
abbrev pub cells_at : ℕ → List Cell → List Cell
cells_at rev cells = filter (shown_at rev) cells

-- the text at a revision
abbrev pub text_at : ℕ → List Cell → List ℕ
text_at rev cells = map (λ c. c.character) (cells_at rev cells)

-- the stamp at a place of a revision
abbrev pub cell_stamp_at : ℕ → List Cell → ℕ → Option Stamp
cell_stamp_at rev cells i = option_map (λ c. c.stamp) (slice_get (cells_at rev cells) i)

-- a new cell of a character
abbrev pub born_at : ℕ → Character → Cell
born_at rev c = record {
  stamp = c.stamp;
  parent = c.parent;
  character = c.character;
  author = c.author;
  born = rev;
  died = None;
}

-- the new cells of a run
abbrev pub new_cells : ℕ → Run → Author → List Cell
new_cells rev run author = map (born_at rev) (run_characters run.first run.after run.text author)

-- the greatest counter of the cells, or 0
abbrev pub clock_of : List Cell → ℕ
clock_of cells = fold (λ most c. max most c.stamp.counter) 0 cells

-- the greatest counter of a replica's cells, or 0
abbrev pub last_of : ℕ → List Cell → ℕ
last_of replica cells = fold (λ most c. if c.stamp.replica == replica then max most c.stamp.counter
    else most) 0 cells

-- no birth and no death is later than a revision
abbrev pub IsBy : ℕ → Cell → Type 0
IsBy rev cell = (cell.born ≤ rev) × ((died : ℕ) → cell.died ≡ Some died → died ≤ rev)

-- whether spans name a cell
abbrev pub is_named : List Span → Cell → Bool
is_named spans cell = is_erased (flat_map span_stamps spans) cell.stamp

-- whether a cell is not yet dead
abbrev pub is_alive : Cell → Bool
is_alive cell = is_none cell.died

-- whether a deletion of these spans hides a cell that was visible
abbrev pub is_hidden_by : List Span → Cell → Bool
is_hidden_by spans cell = is_named spans cell && is_alive cell

-- a cell after a deletion: a cell that it hides dies at its revision
abbrev pub erased_at : ℕ → List Span → Cell → Cell
erased_at rev spans cell = if is_hidden_by spans cell then record cell { died = Some rev } else cell

-- the cells after a deletion
abbrev pub without_spans : ℕ → List Span → List Cell → List Cell
without_spans rev spans cells = map (erased_at rev spans) cells

-- the result of a deletion, and the cells after it
abbrev pub delete_spans : ℕ → List Span → List Cell → Result ℕ Refusal × List Cell
delete_spans rev spans cells =
    if has_spans character_of cells spans
    then (Ok (count_by (is_hidden_by spans) cells), without_spans rev spans cells)
    else (Err PeerFault, cells)

-- the author runs at a revision
abbrev pub runs_at : ℕ → List Cell → List AuthorRun
runs_at rev cells = runs (map (λ c. c.author) (cells_at rev cells))

-- the spans of n visible characters of a revision from a place on
abbrev pub spans_at : ℕ → List Cell → ℕ → ℕ → List Span
spans_at rev cells at n = spans (map (λ c. c.stamp) (take n (drop at (cells_at rev cells))))

-- how many cells that are visible at a revision come before a stamp, if it is there
abbrev pub before_at : ℕ → List Cell → Stamp → Option ℕ
before_at rev cells a = if has_stamp character_of cells a
    then Some (shown_before character_of (shown_at rev) cells a)
    else None

-- how many cells that are visible at a revision come before a stamp or have it, if it is there
abbrev pub through_at : ℕ → List Cell → Stamp → Option ℕ
through_at rev cells a = if has_stamp character_of cells a
    then Some (shown_through character_of (shown_at rev) cells a)
    else None

-- whether a is b or comes before it, if both are there
abbrev pub is_before : List Cell → Stamp → Stamp → Option Bool
is_before cells a b =
    if has_stamp character_of cells a && has_stamp character_of cells b
    then Some (stands_before character_of cells a b)
    else None

-- the cells form a tree of insertions and are in its preorder
pub record IsInOrder (cells : List Cell) : Type 0 where
  pub tree : IsTree character_of cells
  pub is : order character_of cells ≡ cells

-- the cells with those of a run, each at its place in the preorder
abbrev pub with_run : ℕ → Run → Author → List Cell → List Cell
with_run rev run author cells = order character_of (cells ++ new_cells rev run author)

-- the result of an insertion, and the cells after it
abbrev pub insert_run : ℕ → Run → Author → List Cell → Result (Unit {0}) Refusal × List Cell
insert_run rev run author cells =
    if not (run_may_join character_of cells run.first run.after) then (Err PeerFault, cells)
    else if nat_lt MAX_CHARACTERS (length cells + length run.text) then (Err PadFull, cells)
    else (Ok tt, with_run rev run author cells)
