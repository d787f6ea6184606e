-- Why a read or a search for a line ends in a fault.
use Rattle.std.specs.Prelude.{◌≡◌, ◌⊎◌, ℕ, zero, suc, ◌+◌, ◌^◌, Result, Ok, Err}
use Rattle.wire_lines.specs.Device.{one_more}
use Rattle.wire_lines.specs.declared.fault.Fault.{Fault}
use Rattle.wire_lines.specs.declared.fault.Fault.TheVariants.{ReadFault, WriteFault, PeerReply, Memory}

-- the most reads that are made for the lines of one reader
abbrev pub most_reads : ℕ
most_reads = 2 ^ 32

-- a count with this many more, at most the greatest u64
abbrev pub with_more : ℕ → ℕ → ℕ
with_more old zero = old
with_more old (suc count) = one_more (with_more old count)

-- each counted read was made of the reader, unless memory ran out
abbrev pub AreCounted : {X : Type 0} → Result X Fault → ℕ → ℕ → ℕ → ℕ → Type 0
AreCounted (Err Memory) made made_then counted counted_then = Unit {0}
AreCounted other made made_then counted counted_then = (count : ℕ)
    × (counted_then ≡ counted + count)
    × (made_then ≡ with_more made count)

-- a search for a line ends in ReadFault only if the reader failed or all reads were made, and otherwise only if memory
-- ran out
abbrev pub HasCause : {X : Type 0} → Result X Fault → ℕ → ℕ → ℕ → Type 0
HasCause (Ok x) old new reads = new ≡ old
HasCause (Err ReadFault) old new reads = (new ≡ one_more old) ⊎ ((new ≡ old) × (reads ≡ most_reads))
HasCause (Err WriteFault) old new reads = ⊥
HasCause (Err PeerReply) old new reads = ⊥
HasCause (Err Memory) old new reads = new ≡ old
