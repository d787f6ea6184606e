-- The marks that are kept of an origin's operations.
use Rattle.std.specs.Prelude.{ℕ, ◌+◌, ◌≤◌, Bool, true, ◌&&◌, nat_lt, nat_le, if◌then◌else◌, List, [], ◌∷◌}
use Rattle.std.specs.List.{AllByRecursion}
use Rattle.pad_model.specs.declared.op.Op.{Op}
use Rattle.op_log.specs.Log.{is_of}
use Rattle.op_log.specs.declared.track.Mark.{Mark}

-- the mark of an operation at a place
abbrev pub mark_of : ℕ → ℕ → Mark
mark_of place number = record { place = place; number = number }

-- the marks of an origin's operations in a log that begins at a place
abbrev pub marks_from : ℕ → ℕ → List Op → List Mark
marks_from origin place [] = []
marks_from origin place (op ∷ ops) =
    if is_of origin op
    then mark_of place op.name.number ∷ marks_from origin (place + 1) ops
    else marks_from origin (place + 1) ops

-- the marks of an origin's operations in a whole log
abbrev pub marks_of : ℕ → List Op → List Mark
marks_of origin ops = marks_from origin 0 ops

-- neither the place nor the number falls from one mark to the other
abbrev pub IsBefore : Mark → Mark → Type 0
IsBefore mark later = (mark.place ≤ later.place) × (mark.number ≤ later.number)

-- neither places nor numbers fall along the marks
abbrev pub IsRising : List Mark → Type 0
IsRising [] = Unit {0}
IsRising (mark ∷ marks) = AllByRecursion (IsBefore mark) marks × IsRising marks

-- whether the numbers do not fall along the marks, nor below one before them
abbrev pub rises_from : ℕ → List Mark → Bool
rises_from number [] = true
rises_from number (mark ∷ marks) = nat_le number mark.number && rises_from mark.number marks

-- whether a mark is at a place from here on, and its number is above a count
abbrev pub is_above : ℕ → ℕ → Mark → Bool
is_above from count mark = nat_le from mark.place && nat_lt count mark.number

-- the number of the last mark, or the one before it where there is none
abbrev pub last_number : ℕ → List Mark → ℕ
last_number number [] = number
last_number number (mark ∷ marks) = last_number mark.number marks
