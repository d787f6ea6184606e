-- The pad that the pieces of its file lead to.
use Rattle.std.specs.Prelude.{◌≡◌, ◌⊎◌, ℕ, suc, ◌≤◌, List, [], ◌∷◌, ◌++◌, if◌then◌else◌, Result, Err}
use Rattle.std.specs.List.{list_any}
use Rattle.pad_core.specs.Machine.{Machine}
use Rattle.store_records.specs.Records.{unnamed}
use Rattle.store_format.specs.Batches.{begins_batch}
use Rattle.store_format.specs.Files.{Read, file_read, if_named, pad_read, read_lines, read_on, so_far, torn_at}
use Rattle.store_format.specs.Lines.{whole_lines}
use Rattle.store_format.specs.declared.loading.LoadStage.{LoadStage}
use Rattle.store_format.specs.declared.loading.LoadStage.TheVariants.{Start, Linked, Torn, Unbegun}
use Rattle.store_format.specs.declared.reader.Damage.{Damage}
use Rattle.store_format.specs.declared.reader.Damage.TheVariants.{Memory, Unlinked}

-- a file that is being read: the number of bytes that were taken, the pad, and how far its lines were read
pub record Progress : Type 0 where
  pub taken : ℕ
  pub pad : Machine
  pub stage : LoadStage

-- a result, unless one of the lines begins a batch: then the line with this number is damaged
abbrev pub unless_begun : ℕ → Result Read Damage → List (List ℕ) → Result Read Damage
unless_begun number found lines = if list_any begins_batch lines then Err (Unlinked number) else found

-- what the rest of a file's lines leads to from this stage on
abbrev pub lines_from : List ℕ → Machine → LoadStage → List (List ℕ) → Result Read Damage
lines_from name m Start lines = file_read m.replica m.presence.limit name lines
lines_from name m (Linked tail number) lines = read_lines (suc number) name (so_far m tail) lines
lines_from name m (Torn tail number) lines = torn_at number (so_far m tail) lines
lines_from name m (Unbegun damage) lines = unless_begun 1 (Err damage) lines

-- what the rest of a file's bytes leads to from this stage on, and the pad must have this name
abbrev pub bytes_from : List ℕ → Machine → LoadStage → List ℕ → Result Read Damage
bytes_from name m Start bytes = pad_read m.replica m.presence.limit name bytes
bytes_from name m (Linked tail number) bytes = read_on (if_named name)
    (lines_from name m (Linked tail number) (whole_lines bytes))
bytes_from name m (Torn tail number) bytes = read_on (if_named name)
    (lines_from name m (Torn tail number) (whole_lines bytes))
bytes_from name m (Unbegun damage) bytes = read_on (if_named name)
    (lines_from name m (Unbegun damage) (whole_lines bytes))

-- what a pad's file leads to if these bytes follow those that were taken
abbrev pub rest_read : List ℕ → Progress → List ℕ → Result Read Damage
rest_read name progress bytes = bytes_from name progress.pad progress.stage bytes

-- whatever lines come later, these lead from one stage to the next
abbrev pub LeadOn : List ℕ → Machine → LoadStage → List (List ℕ) → Machine → LoadStage → Type 0
LeadOn name m stage lines new next = (later : List (List ℕ)) →
    lines_from name m stage (lines ++ later) ≡ lines_from name new next later

-- whatever lines come later, these lead to this damage; or memory ran out
abbrev pub AreDamaged : List ℕ → Machine → LoadStage → List (List ℕ) → Damage → Type 0
AreDamaged name m stage lines damage = (damage ≡ Memory)
    ⊎ ((later : List (List ℕ)) → lines_from name m stage (lines ++ later) ≡ Err damage)

-- before the first line, the pad is unnamed and nothing was done on it
abbrev pub IsFresh : Machine → LoadStage → Type 0
IsFresh m Start = m ≡ unnamed m.replica m.presence.limit
IsFresh m (Linked tail number) = Unit {0}
IsFresh m (Torn tail number) = Unit {0}
IsFresh m (Unbegun damage) = Unit {0}

-- the first line was read
abbrev pub IsBegun : LoadStage → Type 0
IsBegun Start = ⊥
IsBegun (Linked tail number) = Unit {0}
IsBegun (Torn tail number) = Unit {0}
IsBegun (Unbegun damage) = Unit {0}

-- the numbers of lines and of bytes that were read are at most this
abbrev pub IsWithin : ℕ → LoadStage → Type 0
IsWithin most Start = Unit {0}
IsWithin most (Linked tail number) = (tail.whole ≤ most) × (number ≤ most)
IsWithin most (Torn tail number) = tail.whole ≤ most
IsWithin most (Unbegun damage) = Unit {0}

-- bytes that consist of whole lines
abbrev pub AreLines : List ℕ → Type 0
AreLines bytes = (bytes ≡ []) ⊎ ((front : List ℕ) × (bytes ≡ front ++ 10 ∷ []))
