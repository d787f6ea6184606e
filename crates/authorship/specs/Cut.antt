-- Runs cut at a place between two characters.
use Rattle.std.specs.Prelude.{◌≡◌, ◌≢◌, ℕ, zero, suc, ◌+◌, ◌-◌, ◌≤◌, ◌<◌, List, [], ◌∷◌, ◌++◌, length, take, drop}
use Rattle.std.specs.Prelude.{remove, slice_index_or, slice_set}
use Rattle.authorship.specs.StoredRuns.{characters}
use Rattle.authorship.specs.declared.stored_run.StoredRun.{StoredRun}
use Rattle.authorship.specs.declared.stored_run.RunPlace.{RunPlace}

-- the first characters of the first run
abbrev pub first_part : List StoredRun → ℕ → List StoredRun
first_part [] offset = []
first_part (run ∷ runs) zero = []
first_part (run ∷ runs) (suc offset) = record run { len = suc offset } ∷ []

-- the runs without the first characters of the first one
abbrev pub without_part : List StoredRun → ℕ → List StoredRun
without_part [] offset = []
without_part (run ∷ runs) offset = record run { len = run.len - offset } ∷ runs

-- what comes before a place
abbrev pub front : List StoredRun → RunPlace → List StoredRun
front runs place = take place.index runs ++ first_part (drop place.index runs) place.offset

-- what comes from a place on
abbrev pub back : List StoredRun → RunPlace → List StoredRun
back runs place = without_part (drop place.index runs) place.offset

-- the first run has more characters, or there is no run and the number is 0
abbrev pub IsInside : List StoredRun → ℕ → Type 0
IsInside [] offset = offset ≡ 0
IsInside (run ∷ runs) offset = offset < run.len

-- the place is in the run at its index, or after the last one
pub record IsPlace (runs : List StoredRun) (place : RunPlace) : Type 0 where
  pub within : place.index ≤ length runs
  pub inside : IsInside (drop place.index runs) place.offset

-- how many characters come before a place
abbrev pub position : List StoredRun → RunPlace → ℕ
position runs place = characters (take place.index runs) + place.offset

-- the run at an index
abbrev pub run_at : List StoredRun → ℕ → StoredRun
run_at runs index = slice_index_or runs index (record { author = 0; len = 0 })

-- the run at an index is of this author, and the place is in it or at either end of it
pub record Touches (runs : List StoredRun) (place : RunPlace) (author index : ℕ) : Type 0 where
  pub within : index < length runs
  pub same : (run_at runs index).author ≡ author
  pub starts : characters (take index runs) ≤ position runs place
  pub ends : position runs place ≤ characters (take index runs) + (run_at runs index).len

-- neither the run that the place is in nor the one that it follows is of this author
pub record IsApart (runs : List StoredRun) (place : RunPlace) (author : ℕ) : Type 0 where
  pub here : place.index < length runs → (run_at runs place.index).author ≢ author
  pub before : place.offset ≡ 0 → 0 < place.index → (run_at runs (place.index - 1)).author ≢ author

-- the runs with the one at an index and the next one made one
abbrev pub joined : List StoredRun → ℕ → List StoredRun
joined runs left = slice_set (remove runs (suc left)) left
    (record (run_at runs left) { len = (run_at runs left).len + (run_at runs (suc left)).len })
