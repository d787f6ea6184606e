-- The state of a buffer of lines, and what it finds at the front of the bytes.
use Rattle.std.specs.Prelude.{◌≡◌, ℕ, ◌+◌, ◌-◌, ◌*◌, ◌<◌, ◌≤◌, Bool, true, false, if◌then◌else◌, List, [], ◌++◌, length}
use Rattle.std.specs.Prelude.{⊤, Option, None, Some}
use Rattle.std.specs.Io.KnownBytes.{prepend_known}
use Rattle.wire_lines.specs.declared.fault.Fault.{Fault}
use Rattle.wire_lines.specs.declared.buffer.FoundLine.{FoundLine}
use Rattle.wire_lines.specs.declared.buffer.FoundLine.TheVariants.{Text, TooLong, End}
use Rattle.wire_lines.specs.declared.inlet.TheConstants.{MAX_READS, CHUNK}
use Rattle.wire_lines.specs.declared.feed.TheConstants.{MAX_LINE}
use Rattle.wire_lines.specs.Lines.{line_end, first_line, behind_line, is_too_long}

-- a buffer of lines as callers see it: the bytes that were read and wait, the line that was found last, how many reads
-- were made, whether the source has ended, and the fault that is returned from now on
pub record Reading : Type 0 where
  pub waiting : List ℕ
  pub line : List ℕ
  pub reads : ℕ
  pub ended : Bool
  pub fault : Option Fault

-- the bytes that are to come, if they are known: those that wait, and then those of the source, unless it has ended
abbrev pub ahead : Reading → Option (List ℕ) → Option (List ℕ)
ahead reading remaining = prepend_known reading.waiting
    (if reading.ended then Some [] else remaining)

-- how much may still come: the number of bytes that wait, and for each read that may still be made the size of a chunk
-- plus one
abbrev pub budget : Reading → ℕ
budget reading = length reading.waiting + (MAX_READS - reading.reads) * (CHUNK + 1)

-- what is at the front of the bytes, with the line and the bytes that stay: a line, which is taken; a line that is too
-- long, which stays; or nothing
abbrev pub Shows : FoundLine → List ℕ → List ℕ → List ℕ → Type 0
Shows Text bytes line rest =
    (0 < length bytes) × (is_too_long bytes ≡ false) × (line ≡ first_line bytes)
    × (rest ≡ behind_line bytes)
Shows TooLong bytes line rest = (is_too_long bytes ≡ true) × (rest ≡ bytes)
Shows End bytes line rest = (bytes ≡ []) × (rest ≡ [])

-- the same for bytes that may be unknown, of which nothing is said then
abbrev pub Finds : FoundLine → Option (List ℕ) → List ℕ → Option (List ℕ) → Type 0
Finds found None line rest = ⊤
Finds found (Some bytes) line None = ⊥
Finds found (Some bytes) line (Some rest) = Shows found bytes line rest

-- the bytes show this whatever follows them
abbrev pub ShowsBefore : FoundLine → List ℕ → List ℕ → List ℕ → Type 0
ShowsBefore found bytes line rest = (more : List ℕ)
    → Shows found (bytes ++ more) line (rest ++ more)

-- no line feed is among the bytes, and they are not too many for a line
abbrev pub IsPart : List ℕ → Type 0
IsPart bytes = (line_end bytes ≡ length bytes) × (length bytes ≤ MAX_LINE)
