-- What is left of a pad's file after a crash.
use Rattle.std.specs.Prelude.{◌≡◌, ℕ, ◌≤◌, ◌≢◌, List, [], ◌∷◌, ◌++◌, length, take, Bool, false, Some, None, Ok, Err}
use Rattle.std.specs.List.{AllByRecursion, list_any}
use Rattle.pad_core.specs.Machine.{Machine}
use Rattle.store_records.specs.Laws.{Had, Life, restarted_by}
use Rattle.store_records.specs.declared.kept_record.Record.{Record}
use Rattle.store_records.specs.declared.kept_record.Record.TheVariants.{Named}
use Rattle.store_format.specs.Batches.{begins_batch}
use Rattle.store_format.specs.Entries.{entry_said}
use Rattle.store_format.specs.Files.{Read, file_read, if_named, pad_read}
use Rattle.store_format.specs.declared.reader.Damage.TheVariants.{Empty}
use Rattle.store_format.specs.declared.entry.StoreLine.{StoreLine}
use Rattle.store_format.specs.declared.entry.StoreLine.TheVariants as entry
use Rattle.store_format.specs.Lines.{bytes_of, line_text, lines_behind, sum_after, text_behind, whole_lines}

-- a text without a line feed
abbrev pub IsLine : List ℕ → Type 0
IsLine text = AllByRecursion (λ byte. byte ≢ 10) text

-- a text is one line with this meaning
abbrev pub Tells : StoreLine → List ℕ → Type 0
Tells said text = IsLine text × (entry_said text ≡ Some said)

-- the bytes of these texts' lines
abbrev pub file_of : List (List ℕ) → List ℕ
file_of texts = bytes_of (lines_behind [] texts)

-- the whole lines of a file that was cut off anywhere are those of its first texts, at least of those that are whole
-- before the cut; and the text of each line can be read
pub record LinesLaw : Type 0 where
  pub front : (texts : List (List ℕ)) (left : ℕ) → AllByRecursion IsLine texts →
      (count : ℕ) × (whole_lines (take left (file_of texts)) ≡ lines_behind [] (take count texts))
      × ((whole : ℕ) → whole ≤ length texts → length (file_of (take whole texts)) ≤ left
      → whole ≤ count)
  pub text : (before text : List ℕ) → text_behind before (line_text before text) ≡ Some text

-- a device to which bytes are only appended: the bytes that were written, and how many of them are synced
pub record Disk : Type 0 where
  pub written : List ℕ
  pub synced : ℕ

-- the sum of the last of some texts' lines, the first of which follows a sum
abbrev pub last_sum : List ℕ → List (List ℕ) → List ℕ
last_sum before [] = before
last_sum before (text ∷ texts) = last_sum (sum_after before text) texts

-- lines that were never synced and are not further lines of a file: the first is not linked to this sum, and none of
-- them begins a batch
abbrev pub IsTorn : List ℕ → List (List ℕ) → Type 0
IsTorn sum [] = Unit {0}
IsTorn sum (line ∷ lines) = (text_behind sum line ≡ None)
    × (list_any begins_batch (line ∷ lines) ≡ false)

-- all synced lines are among the whole ones
abbrev pub HasSynced : Disk → List (List ℕ) → ℕ → Type 0
HasSynced disk texts lines = (synced : ℕ) → synced ≤ length texts
    → length (file_of (take synced texts)) ≤ disk.synced →
    synced ≤ lines

-- what a crash may leave of the lines of some texts: a prefix of what was written, with everything that was synced; or
-- whole lines, with all that were synced, followed by any bytes that are not further lines
pub data MayLeave (disk : Disk) (texts : List (List ℕ)) (bytes : List ℕ) : Type 0 where
  cut : (left : ℕ) → disk.synced ≤ left → bytes ≡ take left disk.written
      → length (file_of (take 1 texts)) ≤ length bytes →
      MayLeave disk texts bytes
  torn : (lines : ℕ) (tail : List ℕ) → HasSynced disk texts lines → 1 ≤ lines →
      bytes ≡ file_of (take lines texts) ++ tail
      → IsTorn (last_sum [] (take lines texts)) (whole_lines tail) →
      MayLeave disk texts bytes

-- texts without a line feed, each with the meaning of one of these entries, in order
abbrev pub Say : List StoreLine → List (List ℕ) → Type 0
Say [] [] = Unit {0}
Say [] (text ∷ texts) = ⊥
Say (said ∷ more) [] = ⊥
Say (said ∷ more) (text ∷ texts) = IsLine text × (entry_said text ≡ Some said) × Say more texts

-- the records among some entries
abbrev pub records_in : List StoreLine → List Record
records_in [] = []
records_in (entry.Header header ∷ entries) = records_in entries
records_in (entry.Record kept ∷ entries) = kept ∷ records_in entries

-- each header among some entries names this pad
abbrev pub AreOf : List ℕ → List StoreLine → Type 0
AreOf name [] = Unit {0}
AreOf name (entry.Header header ∷ entries) = (header.pad ≡ name) × AreOf name entries
AreOf name (entry.Record kept ∷ entries) = AreOf name entries

-- what the file of a pad says over all its servers: a header, and then the records, with a further header before those
-- of each new replica number
abbrev pub IsFile : List ℕ → List StoreLine → Type 0
IsFile name [] = ⊥
IsFile name (entry.Header header ∷ entries) = (header.pad ≡ name) × AreOf name entries
IsFile name (entry.Record kept ∷ entries) = ⊥

-- whatever a crash leaves of a pad's file beyond its first line, a server with any numbers reads it as the restarted
-- pad after the records among the remaining lines, and these are at least all that were synced. It takes the pad if the
-- first record gives it this name, and no pad if no record is left. What is left of the file is again a pad's file
abbrev pub CrashLaw : Type 0
CrashLaw =
    (replica present : ℕ) (name : List ℕ) (entries : List StoreLine) (m : Machine)
    (texts : List (List ℕ)) (disk : Disk)
    (bytes : List ℕ) →
    Life replica present (records_in entries) m → IsFile name entries → Say entries texts
    → disk.written ≡ file_of texts →
    MayLeave disk texts bytes →
    (lines : ℕ) × HasSynced disk texts lines
    × (had : Machine) × Had replica present (records_in entries) m (records_in (take lines entries))
    had
    × ((number most : ℕ) →
    (read : Read) × (read.pad ≡ restarted_by number most had)
    × (read.whole ≡ length (file_of (take lines texts)))
    × (file_read number most name (whole_lines bytes) ≡ Ok read)
    × (pad_read number most name bytes ≡ if_named name read)
    × ((owner : List ℕ) (visits : Bool) (more : List Record)
    → records_in (take lines entries) ≡ Named name owner visits ∷ more →
    pad_read number most name bytes ≡ Ok read)
    × (records_in (take lines entries) ≡ [] → pad_read number most name bytes ≡ Err Empty)
    × Life number most (records_in (take lines entries)) read.pad
    × IsFile name (take lines entries))
