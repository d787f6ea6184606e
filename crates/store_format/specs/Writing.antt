-- The lines that are appended to a pad's file.
use Rattle.std.specs.Prelude.{◌≡◌, ℕ, Bool, true, false, List, [], ◌∷◌, ◌++◌, string_bytes}
use Rattle.serde_json.specs.Written.{compact_text}
use Rattle.store_records.specs.declared.kept_record.Record.{Record}
use Rattle.store_format.specs.Entries.{header_data}
use Rattle.store_format.specs.Forms.{record_data}
use Rattle.store_format.specs.Laws.{file_of, last_sum}
use Rattle.store_format.specs.Lines.{bytes_of, lines_behind}
use Rattle.store_format.specs.declared.writer.PadWriter.{PadWriter}

-- the text of a header
abbrev pub header_line : List ℕ → ℕ → List ℕ
header_line pad replica = compact_text (header_data pad replica)

-- the texts of a request's records at a time; each but the first is written together with the one before it
abbrev pub texts_of : ℕ → Bool → List Record → List (List ℕ)
texts_of at together [] = []
texts_of at together (kept ∷ records) = compact_text (record_data at together kept)
    ∷ texts_of at true records

-- the lines of these texts wait behind what waited, the first of them linked to what was the last line
pub record Adds (texts : List (List ℕ)) (old new : PadWriter) : Type 0 where
  pub waiting : string_bytes new.waiting
      ≡ string_bytes old.waiting ++ bytes_of (lines_behind (string_bytes old.sum) texts)
  pub sum : string_bytes new.sum ≡ last_sum (string_bytes old.sum) texts

-- a writer without a fault has written all that waited
pub record IsWritten (old new : PadWriter) : Type 0 where
  pub waiting : string_bytes new.waiting ≡ []
  pub sum : new.sum ≡ old.sum
  pub sound : old.has_failed ≡ false
  pub stays : new.has_failed ≡ false

-- a file and what waits to be written are the lines of these texts, and the next line will be linked to the last
pub record AreLinesOf (texts : List (List ℕ)) (file : List ℕ) (writer : PadWriter) : Type 0 where
  pub lines : file ++ string_bytes writer.waiting ≡ file_of texts
  pub sum : string_bytes writer.sum ≡ last_sum [] texts

-- whatever is added and written, a file and what waits are the lines of all texts in their order; and once all is
-- written, so is the file, of which a crash leaves what was synced
pub record WritingLaw : Type 0 where
  pub begun : (writer : PadWriter) → string_bytes writer.waiting ≡ [] → string_bytes writer.sum ≡ [] →
      AreLinesOf [] [] writer
  pub added : (texts more : List (List ℕ)) (file : List ℕ) (old new : PadWriter) → AreLinesOf texts file old
      → Adds more old new →
      AreLinesOf (texts ++ more) file new
  pub written : (texts : List (List ℕ)) (file : List ℕ) (old new : PadWriter) → AreLinesOf texts file old
      → IsWritten old new →
      AreLinesOf texts (file ++ string_bytes old.waiting) new
      × (file ++ string_bytes old.waiting ≡ file_of texts)
