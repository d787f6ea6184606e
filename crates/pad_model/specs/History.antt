-- The cells that result from a log, and the logs that a pad can have.
use Rattle.std.specs.Prelude.{ℕ, suc, if◌then◌else◌, List, [], ◌∷◌, ◌++◌, Option, Some, None, map, fold, max, IsTrue}
use Rattle.pad_model.specs.Stamp.{Stamp}
use Rattle.pad_model.specs.Character.{Character}
use Rattle.pad_model.specs.Cell.{Cell, born_at, character_of}
use Rattle.pad_model.specs.Checked.{is_checked}
use Rattle.pad_model.specs.Log.{is_valid}
use Rattle.pad_model.specs.Operation.{inserted_by, erased_by}
use Rattle.pad_model.specs.Order.{order}
use Rattle.pad_model.specs.Visible.{is_erased}
use Rattle.pad_model.specs.declared.op.Op.{Op}

-- the characters of a log, each with the revision that inserted it; the first operation makes this revision
abbrev pub births : ℕ → List Op → List Cell
births rev [] = []
births rev (op ∷ log) = map (born_at rev) (inserted_by op) ++ births (suc rev) log

-- the revision that erases a stamp first, if any
abbrev pub death_in : ℕ → List Op → Stamp → Option ℕ
death_in rev [] s = None
death_in rev (op ∷ log) s = if is_erased (erased_by op) s then Some rev
    else death_in (suc rev) log s

-- a cell with the death that a log gives it
abbrev pub dated : List Op → Cell → Cell
dated log cell = record cell { died = death_in 1 log cell.stamp }

-- the cells of a log in preorder, with their births and deaths
abbrev pub cells_of : List Op → List Cell
cells_of log = order character_of (map (dated log) (births 1 log))

-- each further operation is within the limits and valid after those before it
abbrev pub Continues : List Op → List Op → Type 0
Continues before [] = Unit {0}
Continues before (op ∷ more) = IsTrue (is_checked op) × IsTrue (is_valid op before)
    × Continues (before ++ op ∷ []) more

-- a log that was made operation by operation, each within the limits and valid after those before it
abbrev pub IsHistory : List Op → Type 0
IsHistory log = Continues [] log

-- the greatest counter of the characters, or 0
abbrev pub clock_of_characters : List Character → ℕ
clock_of_characters characters = fold (λ most c. max most c.stamp.counter) 0 characters
