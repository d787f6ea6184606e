-- The statements of the laws of a main server and its standby.
use Rattle.std.specs.Prelude.{◌≡◌, ℕ, ◌≤◌, ◌<◌, Bool, List, [], ◌∷◌, ◌++◌, length, take, Ok}
use Rattle.pad_core.specs.Machine.{Machine}
use Rattle.store_records.specs.Laws.{Had, Life, restarted_by}
use Rattle.store_records.specs.declared.kept_record.Record.{Record}
use Rattle.store_records.specs.declared.kept_record.Record.TheVariants.{Named}
use Rattle.store_format.specs.Files.{Read, file_read, if_named, pad_read}
use Rattle.store_format.specs.Laws.{IsFile, MayLeave, Say, file_of, records_in}
use Rattle.store_format.specs.declared.entry.StoreLine.{StoreLine}
use Rattle.store_format.specs.Lines.{whole_lines}
use Rattle.file_copies.specs.Laws.{HasTaken, Stretch, completed}
use Rattle.standby_laws.specs.Servers.{Event, Leads, MayHappen, Servers, after, beginning}
use Rattle.standby_laws.specs.Servers.Event.{restarts, resumes}

-- the copy has the first bytes of the main server's file, with every confirmed line
pub record IsCopied (now : Servers) : Type 0 where
  -- it has the first bytes of the main server's file
  pub front : (rest : List ℕ) × (file_of now.texts ≡ now.copy ++ rest)
  -- and every confirmed line, whole
  pub lines : (whole : ℕ) → length (file_of (take whole now.texts)) ≤ now.confirmed →
      (rest : List ℕ) × (now.copy ≡ file_of (take whole now.texts) ++ rest)
  -- confirmed bytes are synced at the standby, and the bytes of the copy at the main server
  pub confirmed : now.confirmed ≤ now.kept
  pub kept : now.kept ≤ length now.copy
  pub copied : length now.copy ≤ now.synced
  pub synced : now.synced ≤ length (file_of now.texts)

-- after any events, the copy is right: it has the first bytes of the main server's file, with every confirmed line
abbrev pub StandbyLaw : Type 0
StandbyLaw = (events : List Event) (now : Servers) → Leads beginning events now → IsCopied now

-- whatever happens later, confirmed bytes stay confirmed, and the main server's file stays the same there
abbrev pub LastingLaw : Type 0
LastingLaw =
    (earlier later : List Event) (old new : Servers) → Leads beginning earlier old → Leads old later new →
    (old.confirmed ≤ new.confirmed)
    × (take old.confirmed (file_of new.texts) ≡ take old.confirmed (file_of old.texts))

-- the first lines of the main server's file, up to this number, include every confirmed line
abbrev pub HasConfirmed : Servers → ℕ → Type 0
HasConfirmed now lines = (whole : ℕ) → whole ≤ length now.texts
    → length (file_of (take whole now.texts)) ≤ now.confirmed →
    whole ≤ lines

-- the main server's lines say these entries, which a pad of this name left in its lives
pub record HasPad (now : Servers) (replica present : ℕ) (name : List ℕ) (entries : List StoreLine)
    (m : Machine) : Type 0 where
  pub life : Life replica present (records_in entries) m
  pub file : IsFile name entries
  pub says : Say entries now.texts

-- a server with this replica number and this limit of visits reads the bytes of a pad's file as the lines of these
-- texts, which lead to the pad, restarted; and it takes the pad if the first of these records gives it this name
pub record IsServed (number most : ℕ) (name bytes : List ℕ) (texts : List (List ℕ)) (records : List Record)
    (had : Machine) : Type 0 where
  pub read : Read
  pub pad : read.pad ≡ restarted_by number most had
  pub whole : read.whole ≡ length (file_of texts)
  pub found : pad_read number most name bytes ≡ if_named name read
  pub taken : (owner : List ℕ) (visits : Bool) (more : List Record) → records ≡ Named name owner visits ∷ more →
      pad_read number most name bytes ≡ Ok read

-- the pad had a state after the records of the main server's first lines, up to some number, with every confirmed line
-- among them; and a server with any numbers that starts on these bytes serves the pad as it was then, restarted
abbrev pub IsRestored : Servers → ℕ → ℕ → List ℕ → List StoreLine → Machine → List ℕ → Type 0
IsRestored now replica present name entries m bytes =
    (lines : ℕ) × HasConfirmed now lines
    × (had : Machine) × Had replica present (records_in entries) m (records_in (take lines entries)) had
    × ((number most : ℕ)
    → IsServed number most name bytes (take lines now.texts) (records_in (take lines entries)) had)

-- the files of a standby after a crash: the synced bytes of its file, with other bytes after them if its log has a
-- stretch of the file; and the log, whose stretches lead from the synced bytes to bytes of the copy, at least to all
-- that it has synced
pub record IsLeft (now : Servers) (synced other logged : List ℕ) (log : List Stretch) : Type 0 where
  pub copy : (rest : List ℕ) × (now.copy ≡ logged ++ rest)
  pub taken : HasTaken synced log logged
  pub kept : now.kept ≤ length logged
  pub alone : log ≡ [] → other ≡ []

-- after any events, and after a crash of the standby or none: a server that starts on the copy serves the pad as it
-- was, restarted, with every confirmed line
pub record PromotionLaw : Type 0 where
  -- bytes with the first line are served by a server with any numbers
  pub restored : (events : List Event) (now : Servers) (replica present : ℕ) (name : List ℕ) (entries : List StoreLine)
      (m : Machine) (bytes : List ℕ) →
      Leads beginning events now → HasPad now replica present name entries m →
      MayLeave (record { written = now.copy; synced = now.kept }) now.texts bytes →
      IsRestored now replica present name entries m bytes
  -- so are the bytes that are completed from the log
  pub mended : (events : List Event) (now : Servers) (replica present : ℕ) (name : List ℕ) (entries : List StoreLine)
      (m : Machine) (synced other logged : List ℕ) (log : List Stretch) →
      Leads beginning events now → HasPad now replica present name entries m →
      IsLeft now synced other logged log → length (file_of (take 1 now.texts)) ≤ length logged →
      IsRestored now replica present name entries m (completed (synced ++ other) log)
  -- where fewer bytes are left, no line is confirmed
  pub unbegun : (events : List Event) (now : Servers) (left : ℕ) → Leads beginning events now → now.kept ≤ left →
      length (take left now.copy) < length (file_of (take 1 now.texts)) → HasConfirmed now 0

-- each crash is an event: after it, the files of either server are those with which the event lets it start again
pub record CrashesLaw : Type 0 where
  -- the main server: whatever is left of its file, with the first line, is read as the lines with which it starts again
  pub main : (now : Servers) (replica present : ℕ) (name : List ℕ) (entries : List StoreLine) (m : Machine)
      (bytes : List ℕ) →
      HasPad now replica present name entries m →
      MayLeave (record { written = file_of now.texts; synced = now.synced }) now.texts bytes →
      (lines : ℕ) × MayHappen (restarts lines) now
      × ((number most : ℕ) → (read : Read) × (file_read number most name (whole_lines bytes) ≡ Ok read)
      × (read.whole ≡ length (file_of (after (restarts lines) now).texts)))
  -- the standby: once the stretches of its log are put back, its file has the bytes with which it starts again
  pub standby : (now : Servers) (synced other logged : List ℕ) (log : List Stretch) →
      IsLeft now synced other logged log →
      (bytes : ℕ) × MayHappen (resumes bytes) now
      × (completed (synced ++ other) log ≡ (after (resumes bytes) now).copy)

-- events lead to each copy of each file, with any numbers of synced and confirmed bytes that the law of the standby
-- permits
abbrev pub ReachLaw : Type 0
ReachLaw =
    (texts : List (List ℕ)) (lines : ℕ) (copy rest : List ℕ) (kept confirmed : ℕ) →
    file_of texts ≡ copy ++ rest → length copy ≤ length (file_of (take lines texts)) → kept ≤ length copy
    → confirmed ≤ kept →
    (events : List Event) × (now : Servers) × Leads beginning events now
    × (now.texts ≡ texts) × (now.synced ≡ length (file_of (take lines texts)))
    × (now.copy ≡ copy) × (now.kept ≡ kept) × (now.confirmed ≡ confirmed)
