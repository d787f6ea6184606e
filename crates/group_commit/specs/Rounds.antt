-- What each step does to the notes that are counted, and to the round that is under way.
use Rattle.std.specs.Prelude.{◌≡◌, ◌≢◌, ◌≤◌, ◌<◌, List, get_or, min, ◌+◌, ◌-◌, ℕ, Bool, true, false, MatchBool, if◌then◌else◌, ◌&&◌, ◌==◌, ◌⊎◌, not, [], ◌∷◌, ◌++◌, length}
use Rattle.std.specs.List.{list_any}
use Rattle.group_commit.specs.Notes.{WasCounted}
use Rattle.group_commit.specs.declared.round_state.RoundState.{RoundState}
use Rattle.group_commit.specs.declared.progress.NextStep.{NextStep}

-- whether a cell is among those that are due
abbrev pub is_due : ℕ → List ℕ → Bool
is_due cell due = list_any (λ other. other == cell) due

-- each number is that of a note, and a cell with the number of a note that came after the round began is due
pub record AreListed (listed : List ℕ) (noted upto : ℕ) (due : List ℕ) : Type 0 where
  pub counted : (cell : ℕ) → get_or listed cell 0 ≤ noted
  pub listed_due : (cell : ℕ) → upto < get_or listed cell 0 → is_due cell due ≡ true

-- no more notes are on the disk than are counted, where no cell is due each note is in the round or kept, and between two
-- rounds all of the last one are
pub record IsOrderly (state : RoundState) : Type 0 where
  pub kept : state.kept ≤ state.upto
  pub counted : state.upto ≤ state.noted
  pub all_due : state.due.items ≡ [] → state.upto ≡ state.noted
  pub at_rest : state.is_round ≡ false → state.kept ≡ state.upto

-- no note is counted, no cell is due or left, and nothing is kept that was not before
pub record Stays (old new : RoundState) : Type 0 where
  pub noted : new.noted ≡ old.noted
  pub kept : new.kept ≡ old.kept
  pub upto : new.upto ≡ old.upto
  pub due : new.due.items ≡ old.due.items
  pub left : new.left.items ≡ old.left.items
  pub unreported : new.unreported ≡ old.unreported
  pub round : new.is_round ≡ old.is_round
  pub failed : new.has_failed ≡ old.has_failed

-- one more note is counted, and its cell is due with those that were
pub record Counts (cell : ℕ) (old new : RoundState) : Type 0 where
  pub noted : new.noted ≡ old.noted + 1
  pub due : is_due cell new.due.items ≡ true
  pub others : (new.due.items ≡ old.due.items ++ cell ∷ []) ⊎ (new.due.items ≡ old.due.items)
  pub kept : new.kept ≡ old.kept
  pub upto : new.upto ≡ old.upto
  pub left : new.left.items ≡ old.left.items
  pub unreported : new.unreported ≡ old.unreported
  pub round : new.is_round ≡ old.is_round
  pub failed : new.has_failed ≡ old.has_failed

-- a round takes all cells that are due, and all notes counted so far are on the disk once it ends
pub record Begins (old new : RoundState) : Type 0 where
  pub left : new.left.items ≡ old.due.items
  pub unreported : new.unreported ≡ length old.due.items
  pub upto : new.upto ≡ old.noted
  pub due : new.due.items ≡ []
  pub noted : new.noted ≡ old.noted
  pub kept : new.kept ≡ old.kept
  pub round : new.is_round ≡ true
  pub failed : new.has_failed ≡ old.has_failed

-- a cell of the round is taken
pub record Takes (cell : ℕ) (old new : RoundState) : Type 0 where
  pub left : old.left.items ≡ new.left.items ++ cell ∷ []
  pub sound : old.has_failed ≡ false
  pub noted : new.noted ≡ old.noted
  pub kept : new.kept ≡ old.kept
  pub upto : new.upto ≡ old.upto
  pub due : new.due.items ≡ old.due.items
  pub unreported : new.unreported ≡ old.unreported
  pub round : new.is_round ≡ old.is_round
  pub failed : new.has_failed ≡ old.has_failed

-- a cell of the round is reported. With the last one the round ends, unless something has failed
pub record Reports (ends : Bool) (old new : RoundState) : Type 0 where
  pub unreported : new.unreported ≡ old.unreported - 1
  pub over : ends ≡ (new.unreported == 0)
  pub kept : new.kept ≡ (if ends && not old.has_failed then old.upto else old.kept)
  pub round : new.is_round ≡ (if ends && not old.has_failed then false else old.is_round)
  pub noted : new.noted ≡ old.noted
  pub upto : new.upto ≡ old.upto
  pub due : new.due.items ≡ old.due.items
  pub left : new.left.items ≡ old.left.items
  pub failed : new.has_failed ≡ old.has_failed

-- notes are due, and nothing stands against a round
abbrev pub MayStart : RoundState → Type 0
MayStart state = (state.has_failed ≡ false) × (state.is_round ≡ false) × (state.kept < state.noted)

-- what stands against a round: a failure, another one, or that no notes are due
abbrev pub MayNotStart : RoundState → Type 0
MayNotStart state = (state.has_failed ≡ true) ⊎ ((state.is_round ≡ true) ⊎ (state.noted ≤ state.kept))

-- a round begins wherever one may
abbrev pub IsStart : Bool → RoundState → RoundState → Type 0
IsStart true old new = MayStart old × Begins old new
IsStart false old new = MayNotStart old × Stays old new

-- one who waits for more notes than are on the disk finds a round, or begins one
abbrev pub Goes : RoundState → RoundState → Type 0
Goes old new = (old.has_failed ≡ false) × MatchBool old.is_round (Stays old new) (Begins old new)

-- what one does who waits for the first so many notes
abbrev pub IsNextStep : ℕ → RoundState → RoundState → NextStep → Type 0
IsNextStep asked old new (NextStep.Kept kept) =
    (old.has_failed ≡ false) × (kept.number ≡ min asked old.noted) × (kept.number ≤ old.kept)
    × WasCounted kept.number × Stays old new
IsNextStep asked old new NextStep.Failed = (old.has_failed ≡ true) × Stays old new
IsNextStep asked old new NextStep.Works = Goes old new × (new.left.items ≢ [])
IsNextStep asked old new NextStep.Waits = Goes old new × (new.left.items ≡ [])
