-- The loop of `add_notes`: what was added so far, and the texts of the notes that are left behind it, are all.
use Rattle.std.proofs.Common.{◌≡◌, ℕ, List, ◌++◌, drop}
use Rattle.store_format.specs.Writing.{Adds}
use Rattle.group_commit.specs.Notes.{texts_of_notes}
use Rattle.group_commit.proofs.appending.add_notes.Given as goal

-- some texts were added, and those of the rest complete them
abbrev pub invariant-loop-note : goal.invariant-loop-note
invariant-loop-note l =
    (done : List (List ℕ)) × Adds done l.fn.writer l.writer
    × (done ++ texts_of_notes l.follows (drop l.note-index l.notes) ≡ texts_of_notes l.together l.notes)
