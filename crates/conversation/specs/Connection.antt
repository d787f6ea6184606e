-- The outcome of a connection.
use Rattle.std.specs.Prelude.{◌≡◌, ◌⊎◌, ℕ, List, [], ◌∷◌, ◌++◌, length, take, Option, Result, Ok, Err}
use Rattle.std.specs.Io.KnownBytes.{Appends, prepend_known}
use Rattle.pad_model.specs.declared.refusal.Refusal.TheVariants as Refusal
use Rattle.pad_core.specs.declared.request.Request.{Request}
use Rattle.wire_json.specs.Replies.{line_of}
use Rattle.wire_lines.specs.Causes.{most_reads, with_more}
use Rattle.wire_lines.specs.Device.{one_more}
use Rattle.wire_lines.specs.declared.fault.Fault.{Fault}
use Rattle.wire_lines.specs.declared.fault.Fault.TheVariants.{ReadFault, WriteFault, PeerReply, Memory}
use Rattle.wire_lines.specs.Lines.{line_end}
use Rattle.conversation.specs.Delivered.{IsCount, Tells, delivered_of}
use Rattle.conversation.specs.declared.served.Served.{Served}
use Rattle.conversation.specs.Session.{Answer, IsTold, texts, Serves, IsWhole, IsFront, IsBefore, no_memory}

-- the writer failed if the result is a write fault, and has not if it is a success; there is no other fault
abbrev pub HasWriteCause : {X : Type 0} → Result X Fault → ℕ → ℕ → Type 0
HasWriteCause (Ok x) old new = new ≡ old
HasWriteCause (Err ReadFault) old new = ⊥
HasWriteCause (Err WriteFault) old new = new ≡ one_more old
HasWriteCause (Err PeerReply) old new = ⊥
HasWriteCause (Err Memory) old new = ⊥

-- the result of a connection matches its devices: at a read fault the reader failed, or all permitted reads were made;
-- at a write fault the writer failed; and at a success or out of memory neither failed
abbrev pub HasFaultCause : {X : Type 0} → Result X Fault → ℕ → ℕ → ℕ → ℕ → ℕ → ℕ → Type 0
HasFaultCause (Ok x) unread unread_then made made_then unwritten
    unwritten_then = (unread_then ≡ unread)
    × (unwritten_then ≡ unwritten)
HasFaultCause (Err ReadFault) unread unread_then made made_then unwritten unwritten_then =
    ((unread_then ≡ one_more unread) ⊎ ((unread_then ≡ unread) × (count : ℕ) × (count ≡ most_reads)
    × (made_then ≡ with_more made count))) × (unwritten_then ≡ unwritten)
HasFaultCause (Err WriteFault) unread unread_then made made_then unwritten
    unwritten_then = (unread_then ≡ unread)
    × (unwritten_then ≡ one_more unwritten)
HasFaultCause (Err PeerReply) unread unread_then made made_then unwritten unwritten_then = ⊥
HasFaultCause (Err Memory) unread unread_then made made_then unwritten
    unwritten_then = (unread_then ≡ unread)
    × (unwritten_then ≡ unwritten)

-- an out-of-memory fault is reported in a line, which is whole unless the writer fails; any other fault stays, and
-- nothing is written
abbrev pub TellsFault : Fault → Fault → ℕ → ℕ → Option (List ℕ) → Option (List ℕ) → Type 0
TellsFault Memory told old new before after =
    ((told ≡ Memory) × (new ≡ old) × Appends before after (line_of (Err Refusal.Memory)))
    ⊎ ((told ≡ WriteFault) × (new ≡ one_more old) × (count : ℕ)
    × Appends before after (take count (line_of (Err Refusal.Memory))))
TellsFault fault told old new before after = (told ≡ fault) × (new ≡ old) × (after ≡ before)

-- the whole line of an answer, or of out of memory in its place, was written, and reports this many operations
abbrev pub WritesAnswer : Answer → ℕ → Option (List ℕ) → Option (List ℕ) → Type 0
WritesAnswer answer count before after = (told : Answer) × IsTold answer told
    × (count ≡ delivered_of told)
    × Appends before after (line_of told)

-- a prefix of the line of an answer, or of out of memory in its place, was written
abbrev pub WritesPart : Answer → Option (List ℕ) → Option (List ℕ) → Type 0
WritesPart answer before after = (told : Answer) × (count : ℕ) × IsTold answer told
    × Appends before after (take count (line_of told))

-- a state was reached, and then its session was ended
abbrev pub ThenEnds : {P : Type 0} → (P → Type 0) → (P → P → Type 0) → P → Type 0
ThenEnds {P} Reached ends new = (last : P) × Reached last × ends last new

module _ {P : Type 0} (calls : P → Request → Answer → P → Type 0) where
  -- a line was answered, and its answer was written
  abbrev pub ServesOne : P → List ℕ → Option ℕ → Option (List ℕ) → Option (List ℕ) → P → Type 0
  ServesOne old line told before after new =
      (answers : List Answer) × Serves calls old (line ∷ []) answers new × Tells told answers
      × Appends before after (texts answers)

  -- all lines were answered and all answers written, with the counts of these answers and of the operations that they
  -- report
  abbrev pub ServesAll : P → Option (List ℕ) → Served → Option (List ℕ) → Option (List ℕ) → P
      → Type 0
  ServesAll old known served before after new =
      (asked : List (List ℕ)) × (answers tail : List Answer) × Serves calls old asked answers new
      × IsWhole known asked tail
      × IsCount served (answers ++ tail) × Appends before after (texts (answers ++ tail))

  -- the first lines were answered, and a prefix of the answers was written
  abbrev pub BreaksOff : P → Option (List ℕ) → Option (List ℕ) → Option (List ℕ) → P → Type 0
  BreaksOff old known before after new =
      (asked : List (List ℕ)) × (answers tail : List Answer) × (count : ℕ)
      × Serves calls old asked answers new
      × IsFront known asked tail
      × Appends before after (take count (texts (answers ++ tail)))

  -- the first lines were answered and all answers written, and then that there is no memory for the next line
  abbrev pub RunsOut : P → Option (List ℕ) → Option (List ℕ) → Option (List ℕ) → P → Type 0
  RunsOut old known before after new =
      (asked : List (List ℕ)) × (answers : List Answer) × Serves calls old asked answers new
      × IsFront known asked no_memory
      × Appends before after (texts (answers ++ no_memory))

  -- each line whose line feed was read was answered, and all answers were written
  abbrev pub ServesRead : P → Option (List ℕ) → Option (List ℕ) → Option (List ℕ) → Option (List ℕ)
      → P → Type 0
  ServesRead old known unread before after new =
      (asked : List (List ℕ)) × (answers : List Answer) × (part : List ℕ)
      × Serves calls old asked answers new
      × IsBefore known asked (prepend_known part unread) × (line_end part ≡ length part)
      × Appends before after (texts answers)
