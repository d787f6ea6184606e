-- What is noted, and what of it is in a pad's file.
use Rattle.std.specs.Prelude.{◌≡◌, ◌≢◌, ℕ, Bool, ◌||◌, ◌==◌, not, List, [], ◌∷◌, ◌++◌, ⊤, Option, string_bytes, vec_len}
use Rattle.std.specs.Io.KnownBytes.{Appends}
use Rattle.store_format.specs.Writing.{Adds, IsWritten, texts_of}
use Rattle.store_format.specs.declared.writer.PadWriter.{PadWriter}
use Rattle.group_commit.specs.declared.queue.Note.{Note}
use Rattle.group_commit.specs.declared.queue.Unnoted.{Unnoted}
use Rattle.group_commit.specs.declared.queue.Unnoted.TheVariants as unnoted

-- a note is in the queue of the pad at this cell. `PadQueue::push` alone gives this fact
pub WasQueued : ℕ → Note → Type 0
WasQueued cell note = ⊤

-- a note that was put into a queue
pub is_queued : (cell : ℕ) (note : Note) → WasQueued cell note
unfolding WasQueued
is_queued cell note = tt

-- why the queue of the pad at a cell does not take a note of the pad at another: the cells differ, and otherwise memory ran out
abbrev pub IsUnqueued : ℕ → ℕ → Unnoted → Type 0
IsUnqueued own cell unnoted.Memory = cell ≡ own
IsUnqueued own cell (unnoted.NoCell told) = (told ≡ cell) × (cell ≢ own)
IsUnqueued own cell unnoted.TooMany = ⊥

-- why a note is not counted, after so many: there is no number for one more, or memory ran out while there was one
abbrev pub IsUncounted : ℕ → Unnoted → Type 0
IsUncounted noted unnoted.Memory = noted ≢ 18446744073709551615
IsUncounted noted (unnoted.NoCell told) = ⊥
IsUncounted noted unnoted.TooMany = noted ≡ 18446744073709551615

-- there were this many notes when somebody asked. `Progress::ask` and `Progress::next_step` alone give this fact
pub WasCounted : ℕ → Type 0
WasCounted number = ⊤

-- a number of notes that was asked for
pub is_counted : (number : ℕ) → WasCounted number
unfolding WasCounted
is_counted number = tt

-- nothing is settled any more. A failure alone gives this fact
pub NothingSettles : Type 0
NothingSettles = ⊤

-- what a failure gives
pub it_failed : NothingSettles
unfolding NothingSettles
it_failed = tt

-- the texts of notes: a line for each record, each but the first written together with the one before it
abbrev pub texts_of_notes : Bool → List Note → List (List ℕ)
texts_of_notes together [] = []
texts_of_notes together (note ∷ notes) =
    texts_of note.at together note.records.items ++ texts_of_notes (together || not (vec_len note.records == 0)) notes

-- the lines of these notes were appended in one piece, behind what waited and linked to it, and nothing waits
pub record HasAppended (together : Bool) (notes : List Note) (old new : PadWriter) (before after : Option (List ℕ)) : Type 0 where
  pub full : PadWriter
  pub adds : Adds (texts_of_notes together notes) old full
  pub written : IsWritten full new
  pub appends : Appends before after (string_bytes full.waiting)
