-- What a reader of lines is yet to read, and what it gives of that.
use Rattle.std.specs.Prelude.{◌≡◌, ℕ, true, false, List, [], ⊤, Option, None, Some, Result, Ok, Err}
use Rattle.wire_lines.specs.Lines.{first_line, behind_line, is_too_long}
use Rattle.wire_lines.specs.Buffer.{ahead}
use Rattle.wire_lines.specs.Causes.{HasCause}
use Rattle.wire_lines.specs.declared.fault.Fault.{Fault}
use Rattle.wire_lines.specs.declared.lines.Lines.{Lines}
use Rattle.wire_lines.specs.declared.lines.Line.{Line}
use Rattle.wire_lines.specs.declared.lines.Line.TheVariants as line

-- the reader of the lines
abbrev pub source_of : {R : Type 0} → Lines R → R
source_of lines = lines.source

-- the bytes that are to come, if they are known
abbrev pub lines_ahead : {R : Type 0} → (R → Option (List ℕ)) → Lines R → Option (List ℕ)
lines_ahead remaining lines = ahead lines.buffer (remaining lines.source)

-- the fault that is returned from now on, if any
abbrev pub fault_of : {R : Type 0} → Lines R → Option Fault
fault_of lines = lines.buffer.fault

-- the line is the first of the bytes that are to come; or that one is too long, or there is none
abbrev pub IsFirst : Line → List ℕ → Type 0
IsFirst (line.Text text) bytes = (is_too_long bytes ≡ false) × (text.now ≡ first_line bytes)
IsFirst line.TooLong bytes = is_too_long bytes ≡ true
IsFirst line.End bytes = bytes ≡ []

-- the result is the first line of the bytes, if they are known, or a fault
abbrev pub GivesLine : Option (List ℕ) → Result Line Fault → Type 0
GivesLine None answer = ⊤
GivesLine (Some bytes) (Err fault) = ⊤
GivesLine (Some bytes) (Ok line) = IsFirst line bytes

-- a line was taken, and nothing else of the bytes is lost
abbrev pub IsAnswered : Result Line Fault → Option (List ℕ) → Option (List ℕ) → Type 0
IsAnswered answer None new = ⊤
IsAnswered answer (Some bytes) None = ⊥
IsAnswered (Ok (line.Text text)) (Some bytes) (Some rest) = rest ≡ behind_line bytes
IsAnswered (Ok line.TooLong) (Some bytes) (Some rest) = rest ≡ bytes
IsAnswered (Ok line.End) (Some bytes) (Some rest) = rest ≡ bytes
IsAnswered (Err fault) (Some bytes) (Some rest) = rest ≡ bytes

-- how many calls of the reader have failed
abbrev pub failures_of : {R : Type 0} → (R → ℕ) → Lines R → ℕ
failures_of failures lines = failures lines.source

-- how many reads were made for the lines
abbrev pub reads_of : {R : Type 0} → Lines R → ℕ
reads_of lines = lines.buffer.reads

-- a fault has its cause: an earlier one is returned again, and a new one has the cause of a failed search for a line
abbrev pub IsCaused : Option Fault → Result Line Fault → ℕ → ℕ → ℕ → Type 0
IsCaused (Some fault) answer old new reads = answer ≡ Err fault
IsCaused None answer old new reads = HasCause answer old new reads
