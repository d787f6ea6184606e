-- The statements of the laws of cells.
use Rattle.std.specs.Prelude.{◌≡◌, ℕ, ◌+◌, List, [], ◌∷◌, ◌++◌, length, IsTrue, Some, Contains, filter, map, nat_le}
use Rattle.std.specs.Prelude.{take}
use Rattle.pad_model.specs.Cell.{Cell, IsInOrder, before_at, character_of, cells_at, through_at}
use Rattle.pad_model.specs.Checked.{are_parts, is_checked}
use Rattle.pad_model.specs.History.{IsHistory, cells_of}
use Rattle.pad_model.specs.Laws.{itself}
use Rattle.pad_model.specs.Legal.{IsTree, has_stamp}
use Rattle.pad_model.specs.Log.{is_valid}
use Rattle.pad_model.specs.Operation.{Characters, author_of, characters_in}
use Rattle.pad_model.specs.Order.{order}
use Rattle.pad_model.specs.Parts.{parts_fit, with_parts, with_each_part}
use Rattle.pad_model.specs.Stamp.{Stamp}
use Rattle.pad_model.specs.Visible.{visible, visible_before, visible_through}
use Rattle.pad_model.specs.declared.op.Op.{Op}
use Rattle.pad_model.specs.declared.op.Part.{Part}
use Rattle.pad_model.specs.declared.who.Author.{Author}

-- a legal set: what was inserted forms a tree of insertions, and what is erased was inserted
pub record IsLegal (set : Characters) : Type 0 where
  pub tree : IsTree itself set.inserted
  pub erased : (s : Stamp) → Contains set.erased s → IsTrue (has_stamp itself set.inserted s)

-- what the operations of a history insert and erase forms a legal set
abbrev pub LegalLaw : Type 0
LegalLaw = (log : List Op) → IsHistory log → IsLegal (characters_in log)

-- the order of cells is the order of their characters
abbrev pub CellOrderLaw : Type 0
CellOrderLaw = (cells : List Cell) → map character_of (order character_of cells)
    ≡ order itself (map character_of cells)

-- the cells of a log that are born by a revision, dead or not, are in order the preorder of what its first operations
-- insert
abbrev pub BirthLaw : Type 0
BirthLaw =
    (log : List Op) → IsHistory log → (k : ℕ) →
    map character_of (filter (λ c. nat_le c.born k) (cells_of log))
    ≡ order itself (characters_in (take k log)).inserted

-- the cells of a log that are born by a revision and not dead at it are in order what its first operations show
abbrev pub SliderLaw : Type 0
SliderLaw = (log : List Op) → IsHistory log → (k : ℕ) → map character_of (cells_at k (cells_of log))
    ≡ visible (characters_in (take k log))

-- parts that fit leave the same cells when they are made at once as when they are made one after another
abbrev pub PartsLaw : Type 0
PartsLaw =
    (rev : ℕ) (author : Author) (parts : List Part) (cells : List Cell) → IsInOrder cells →
    IsTrue (are_parts author.origin parts) → IsTrue (parts_fit author parts cells) →
    with_parts rev parts author cells ≡ with_each_part rev author cells parts

-- one more operation of a history makes its parts among the cells of those before it
abbrev pub GrowthLaw : Type 0
GrowthLaw =
    (log : List Op) (op : Op) → IsHistory log → IsTrue (is_checked op) → IsTrue (is_valid op log) →
    cells_of (log ++ op ∷ []) ≡ with_parts (length log + 1) op.parts (author_of op) (cells_of log)

-- the position of a stamp among what a revision shows can be read from the cells, and so can comment ranges and carets
abbrev pub PlaceLaw : Type 0
PlaceLaw =
    (log : List Op) → IsHistory log → (k : ℕ) (a : Stamp) →
    IsTrue (has_stamp itself (characters_in (take k log)).inserted a) →
    (before_at k (cells_of log) a ≡ Some (visible_before (characters_in (take k log)) a))
    × (through_at k (cells_of log) a ≡ Some (visible_through (characters_in (take k log)) a))
