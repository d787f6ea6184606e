-- The pad that the bytes of its file lead to, or the first damage.
use Rattle.std.specs.Prelude.{ℕ, suc, ◌+◌, List, [], ◌∷◌, length, codes, bytes_eq, ◌==◌, ◌||◌, if◌then◌else◌}
use Rattle.std.specs.Prelude.{string_bytes, Option, Some, None, Result, Ok, Err}
use Rattle.std.specs.List.{list_any, starts_with}
use Rattle.pad_model.specs.declared.refusal.Refusal.{Refusal}
use Rattle.pad_core.specs.Machine.{Machine, name_of}
use Rattle.store_records.specs.Records.{replay, unnamed}
use Rattle.store_format.specs.Batches.{begins_batch}
use Rattle.store_format.specs.Entries.{entry_said}
use Rattle.store_format.specs.Lines.{sum_after, text_behind, whole_lines}
use Rattle.store_format.specs.declared.entry.StoreLine.{StoreLine}
use Rattle.store_format.specs.declared.entry.StoreLine.TheVariants as entry
use Rattle.store_format.specs.declared.header.Header.{Header}
use Rattle.store_format.specs.declared.reader.Damage.{Damage}
use Rattle.store_format.specs.declared.reader.Tail.{Tail}
use Rattle.store_format.specs.declared.reader.Damage.TheVariants.{Empty, OtherPad, Refused, Unknown, Unlinked}

-- what follows, unless there was damage before
abbrev pub read_on : {A B : Type 0} → (A → Result B Damage) → Result A Damage → Result B Damage
read_on next (Ok found) = next found
read_on next (Err damage) = Err damage

-- what follows from the text of a line, or something else if it has none
abbrev pub by_text : {A : Type 0} → A → (List ℕ → A) → Option (List ℕ) → A
by_text instead next None = instead
by_text instead next (Some text) = next text

-- the meaning of the line with this number; without one it is damaged
abbrev pub said_at : ℕ → Option StoreLine → Result StoreLine Damage
said_at number None = Err (Unknown number)
said_at number (Some said) = Ok said

-- a file as far as it was read: the pad, the last header, the sum of the last line, and the number of bytes of the
-- lines
pub record Read : Type 0 where
  pub pad : Machine
  pub header : Header
  pub sum : List ℕ
  pub whole : ℕ

-- what was read so far, from the pad and the tail of the lines
abbrev pub so_far : Machine → Tail → Read
so_far m tail = record {
  pad = m;
  header = tail.header;
  sum = string_bytes tail.sum;
  whole = tail.whole;
}

-- what was read, with one more line that has this text
abbrev pub behind_line : Read → List ℕ → List ℕ → Read
behind_line before line text = record before {
  sum = sum_after before.sum text;
  whole = before.whole
      + suc (length line);
}

-- what was read after the record of the line with this number
abbrev pub unless_refused : ℕ → Read → Result (Unit {0}) Refusal × Machine → Result Read Damage
unless_refused number before (Ok done, m) = Ok (record before { pad = m })
unless_refused number before (Err refusal, m) = Err (Refused number refusal)

-- what was read after the line with this number: a header has to name the same pad, and a record is replayed
abbrev pub entered : ℕ → List ℕ → Read → StoreLine → Result Read Damage
entered number name before (entry.Header header) = if bytes_eq header.pad name
    then Ok (record before { header = header })
    else Err OtherPad
entered number name before (entry.Record kept) = unless_refused number before
    (replay kept before.pad)

-- what was read after the text of the line with this number
abbrev pub text_read : ℕ → List ℕ → Read → List ℕ → Result Read Damage
text_read number name before text = read_on (entered number name before)
    (said_at number (entry_said text))

-- what was read of a file whose next line, with this number, is not linked: this is damage if one of the lines from it
-- on begins a batch, since all before that was synced; otherwise these lines were never synced
abbrev pub torn_at : ℕ → Read → List (List ℕ) → Result Read Damage
torn_at number before lines = if list_any begins_batch lines then Err (Unlinked number)
    else Ok before

-- what was read after some more lines, the first of which has this number
abbrev pub read_lines : ℕ → List ℕ → Read → List (List ℕ) → Result Read Damage
read_lines number name before [] = Ok before
read_lines number name before (line ∷ lines) =
    by_text (torn_at number before (line ∷ lines))
    (λ text. read_on (λ next. read_lines (suc number) name next lines)
    (text_read number name (behind_line before line text) text))
    (text_behind before.sum line)

-- what was read after the first line, which is a header
abbrev pub begun : ℕ → ℕ → List ℕ → List ℕ → List ℕ → StoreLine → Result Read Damage
begun replica present name line sum (entry.Header header) = if bytes_eq header.pad name
    then Ok (record {
      pad = unnamed replica present;
      header = header;
      sum = sum;
      whole = suc (length line);
    }) else Err OtherPad
begun replica present name line sum (entry.Record kept) = Err (Unknown 1)

-- the first bytes of every pad's file
abbrev pub beginning : List ℕ
beginning = codes "[{\"format\":"

-- the damage of a file that does not begin with a whole line of a pad: its first write was lost, or it was never a
-- pad's
abbrev pub unbegun : List ℕ → Damage
unbegun bytes = if starts_with (λ a b. a == b) bytes beginning
    || starts_with (λ a b. a == b) beginning bytes
    || starts_with (λ a b. a == b) bytes (0 ∷ []) then Empty else Unlinked 1

-- the damage of a file whose first line is not linked
abbrev pub torn_front : List ℕ → List (List ℕ) → Damage
torn_front line lines = if list_any begins_batch lines then Unlinked 1 else unbegun line

-- what was read after the first of some lines
abbrev pub first_read : ℕ → ℕ → List ℕ → List ℕ → List (List ℕ) → Result Read Damage
first_read replica present name line lines = by_text (Err (torn_front line lines))
    (λ text. read_on (begun replica present name line (sum_after [] text))
    (said_at 1 (entry_said text))) (text_behind [] line)

-- what the lines of a pad's file lead to, on the server with this replica number and this limit of visits
abbrev pub file_read : ℕ → ℕ → List ℕ → List (List ℕ) → Result Read Damage
file_read replica present name [] = Err Empty
file_read replica present name (first ∷ lines) = read_on (λ before. read_lines 2 name before lines)
    (first_read replica present name first (first ∷ lines))

-- what was read, if its pad has this name
abbrev pub if_called : List ℕ → Read → Option (List ℕ) → Result Read Damage
if_called name read None = Err Empty
if_called name read (Some own) = if bytes_eq own name then Ok read else Err OtherPad

-- the same, by the name that the pad has
abbrev pub if_named : List ℕ → Read → Result Read Damage
if_named name read = if_called name read (name_of read.pad.owned)

-- what the lines of a file with these bytes lead to; without any it is damaged
abbrev pub lines_read : ℕ → ℕ → List ℕ → List ℕ → List (List ℕ) → Result Read Damage
lines_read replica present name bytes [] = Err (unbegun bytes)
lines_read replica present name bytes (first ∷ lines) = read_on (if_named name)
    (file_read replica present name (first ∷ lines))

-- what the bytes of a pad's file lead to, on the server with these numbers: its whole lines are read, as far as they
-- were synced, and its pad must have this name
abbrev pub pad_read : ℕ → ℕ → List ℕ → List ℕ → Result Read Damage
pad_read replica present name bytes = lines_read replica present name bytes (whole_lines bytes)
