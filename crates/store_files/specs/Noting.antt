-- What a request leaves to be kept was noted.
use Rattle.std.specs.Prelude.{◌≡◌, ◌⊎◌, ℕ, List, [], MatchResult}
use Rattle.store_records.specs.Records.{records_of}
use Rattle.store_records.specs.declared.kept_record.Record.{Record}
use Rattle.shared_pads.specs.declared.gate.Answered.{Answered}
use Rattle.group_commit.specs.Notes.{NothingSettles, WasQueued}
use Rattle.group_commit.specs.declared.queue.Note.{Note}

-- records are in the queue of the pad at a cell, or there are none
abbrev pub AreQueued : ℕ → List Record → Type 0
AreQueued cell records =
    (records ≡ []) ⊎ ((note : Note) × (note.records.items ≡ records) × WasQueued cell note)

-- what a request leaves is in the queue of its pad, or nothing is settled any more
abbrev pub IsKept : Answered → Type 0
IsKept told =
    NothingSettles
    ⊎ MatchResult told.more.now
    (λ items. AreQueued told.cell (records_of told.who.now told.request.now told.at told.visit told.answer.now items))
    (λ e. NothingSettles)
