-- What goes over a connection to a peer: lines that are written and lines that are heard.
use Rattle.std.specs.Prelude.{◌≡◌, ◌⊎◌, ℕ, ◌+◌, List, take, Option, None, Some, option_and_then}
use Rattle.std.specs.Io.KnownBytes.{Appends}
use Rattle.serde_json.specs.Data.{Data}
use Rattle.wire_json.specs.Peers.{told}
use Rattle.wire_json.specs.declared.peer_answer.Told.{Told}
use Rattle.wire_lines.specs.Buffer.{Finds}
use Rattle.wire_lines.specs.Causes.{most_reads, with_more}
use Rattle.wire_lines.specs.Device.{one_more}
use Rattle.wire_lines.specs.declared.buffer.FoundLine.TheVariants.{Text, TooLong, End}
use Rattle.wire_lines.specs.declared.fault.Fault.{Fault}
use Rattle.wire_lines.specs.declared.fault.Fault.TheVariants.{ReadFault, WriteFault, PeerReply, Memory}

-- a connection to a peer: the bytes that the peer will still send and those that were written to it, if they are known;
-- the fault that is returned from now on; the numbers of failed reads and writes; the number of reads that the reader
-- counts, and of those made for lines
pub record Wire : Type 0 where
  pub unread : Option (List ℕ)
  pub written : Option (List ℕ)
  pub stopped : Option Fault
  pub read_failures : ℕ
  pub write_failures : ℕ
  pub reads : ℕ
  pub spent : ℕ

-- a wire to which more was written
abbrev pub wrote : Option (List ℕ) → ℕ → Wire → Wire
wrote written failures w = record {
  unread = w.unread;
  written = written;
  stopped = w.stopped;
  read_failures = w.read_failures;
  write_failures = failures;
  reads = w.reads;
  spent = w.spent;
}

-- a wire from which more was read
abbrev pub read : Option (List ℕ) → Option Fault → ℕ → ℕ → ℕ → Wire → Wire
read unread stopped failures reads spent w = record {
  unread = unread;
  written = w.written;
  stopped = stopped;
  read_failures = failures;
  write_failures = w.write_failures;
  reads = reads;
  spent = spent;
}

-- a text was written
abbrev pub Writes : List ℕ → Wire → Wire → Type 0
Writes text old new = Appends old.written new.written text
    × (new ≡ wrote new.written old.write_failures old)

-- a prefix of a text was written, and then the writer failed
abbrev pub WritesPart : List ℕ → Wire → Wire → Type 0
WritesPart text old new =
    (count : ℕ) × Appends old.written new.written (take count text)
    × (new ≡ wrote new.written (one_more old.write_failures) old)

-- the next line of the bytes, or that there is none: they end, or it is too long
abbrev pub IsNext : Option (List ℕ) → Option (List ℕ) → Option (List ℕ) → Type 0
IsNext (Some line) before after = Finds Text before line after
IsNext None before after = (line : List ℕ)
    × (Finds TooLong before line after ⊎ Finds End before line after)

-- as many reads were counted as were made
abbrev pub AreMade : Wire → Wire → Type 0
AreMade old new = (count : ℕ) × (new.spent ≡ old.spent + count)
    × (new.reads ≡ with_more old.reads count)

-- a line was heard, or there is none
abbrev pub Hears : Option (List ℕ) → Wire → Wire → Type 0
Hears heard old new =
    IsNext heard old.unread new.unread × (old.stopped ≡ None → (new.stopped ≡ None)
    × (new.read_failures ≡ old.read_failures) × AreMade old new)
    × (new ≡ read new.unread new.stopped new.read_failures new.reads new.spent old)

-- no line was heard: the reader failed, or all reads that may be made were made, or memory ran out
abbrev pub IsUnheard : Fault → Wire → Wire → Type 0
IsUnheard ReadFault old new =
    ((new.read_failures ≡ one_more old.read_failures)
    ⊎ ((new.read_failures ≡ old.read_failures) × (new.spent ≡ most_reads))) × AreMade old new
IsUnheard WriteFault old new = ⊥
IsUnheard PeerReply old new = ⊥
IsUnheard Memory old new = new.read_failures ≡ old.read_failures

-- no line was heard, and nothing was written
abbrev pub Misses : Fault → Wire → Wire → Type 0
Misses fault old new =
    (old.stopped ≡ None → IsUnheard fault old new) × (new.written ≡ old.written)
    × (new.write_failures ≡ old.write_failures)

-- the answer in a line, if there is one
abbrev pub answer : {A : Type 0} → (Data → Option A) → Option (List ℕ) → Option (Told A)
answer form heard = option_and_then (told form) heard

-- an answer in a form was heard; None if no line was heard, or it has another form
abbrev pub HearsAs : {A : Type 0} → (Data → Option A) → Option (Told A) → Wire → Wire → Type 0
HearsAs form said old new = (heard : Option (List ℕ)) × Hears heard old new
    × (said ≡ answer form heard)

-- no answer was heard, or there was no memory to read it
abbrev pub MissesAnswer : Fault → Wire → Wire → Type 0
MissesAnswer fault old new = Misses fault old new
    ⊎ ((fault ≡ Memory) × (heard : Option (List ℕ)) × Hears heard old new)
