-- The runs of one operation among blocks.
use Rattle.std.specs.Prelude.{◌≡◌, ℕ, ◌+◌, ◌≤◌, ◌<◌, true, List, [], ◌∷◌, length, sum_by, Option, Some, None}
use Rattle.std.specs.List.{AllByRecursion, list_all, remove}
use Rattle.ident_index.specs.Index.{Index, stamp_behind}
use Rattle.blocks.specs.Blocks.{IsEdge}
use Rattle.pad_model.specs.Checked.{is_run}
use Rattle.pad_model.specs.Legal.{has_parent}
use Rattle.pad_model.specs.Stamp.{Stamp}
use Rattle.pad_model.specs.declared.limits.TheConstants.{MAX_CHARACTERS}
use Rattle.pad_model.specs.Cell.{Cell, character_of}
use Rattle.pad_model.specs.Parts.{AllJoin, runs_in, spans_in}
use Rattle.pad_model.specs.declared.op.Part.{Part}
use Rattle.pad_model.specs.declared.op.Run.{Run}
use Rattle.pad_model.specs.declared.who.Author.{Author}

-- how many runs the parts insert, and how many spans they erase, together
abbrev pub count_changes : List Part → ℕ
count_changes parts = length (runs_in parts) + length (spans_in parts)

-- no block reaches over the place behind a run's parent
abbrev pub IsCutBehind : Index → Option Stamp → Type 0
IsCutBehind m None = Unit {0}
IsCutBehind m (Some p) = IsEdge m (stamp_behind p 1)

-- the runs are checked, each joins the cells when its turn comes, their parents are there from the start with the
-- blocks cut behind them,
-- and there is room for all
pub record MayPut (rev : ℕ) (author : Author) (cells : List Cell) (m : Index)
    (runs : List Run) : Type 0 where
  pub checked : list_all (is_run author.origin) runs ≡ true
  pub join : AllJoin rev author cells runs
  pub rooted : list_all (λ run. has_parent character_of cells run.after) runs ≡ true
  pub cut : AllByRecursion (λ run. IsCutBehind m run.after) runs
  pub room : length cells + sum_by (λ run. length run.text) runs ≤ MAX_CHARACTERS

-- the items without those at some ranks, the last rank taken first
abbrev pub without_ranks : {A : Type 0} → List A → List ℕ → List A
without_ranks items [] = items
without_ranks items (rank ∷ ranks) = remove (without_ranks items ranks) rank

-- each rank is within what is left when it is taken
abbrev pub AreRanks : {A : Type 0} → List A → List ℕ → Type 0
AreRanks items [] = Unit {0}
AreRanks items (rank ∷ ranks) = AreRanks items ranks × (rank < length (without_ranks items ranks))
