-- How a round breaks off.
use Rattle.std.specs.Prelude.{◌≡◌, ℕ, Bool, true, false, List, [], Option, None, Result}
use Rattle.std.specs.Io.KnownBytes.{Appends}
use Rattle.pad_model.specs.declared.op.Op.{Op}
use Rattle.pad_model.specs.declared.refusal.Refusal.{Refusal}
use Rattle.pad_model.specs.declared.seen.Counted.{Counted}
use Rattle.pad_core.specs.declared.request.Request.{Request}
use Rattle.wire_lines.specs.Device.{one_more}
use Rattle.wire_lines.specs.declared.fault.Fault.{Fault}
use Rattle.wire_lines.specs.declared.fault.Fault.TheVariants.{ReadFault, WriteFault, PeerReply, Memory}
use Rattle.conversation.specs.Session.{Answer}
use Rattle.relay.specs.Wire.{Wire, IsUnheard}
use Rattle.relay.specs.Round.{Stage, World, Reaches}
use Rattle.relay.specs.Round.Stage.{Failed, Giving, Hearing}
use Rattle.relay.specs.Kept.{world}
use Rattle.relay.specs.declared.talk.Talk.{Talk}

-- why a round broke off at a stage, with these bytes of it not written: the reader failed; the writer failed; the
-- peer's line was not an answer; or memory ran out
abbrev pub IsCause : Fault → Stage → List ℕ → Wire → Wire → Type 0
IsCause ReadFault stage rest old new = (rest ≡ []) × IsUnheard ReadFault old new
    × (new.write_failures ≡ old.write_failures)
IsCause WriteFault stage rest old new = (new.write_failures ≡ one_more old.write_failures)
    × (new.read_failures ≡ old.read_failures)
IsCause PeerReply stage rest old new =
    (rest ≡ []) × (stage ≡ Failed PeerReply) × (new.read_failures ≡ old.read_failures)
    × (new.write_failures ≡ old.write_failures)
IsCause Memory stage rest old new = (new.read_failures ≡ old.read_failures)
    × (new.write_failures ≡ old.write_failures)

module _ {P : Type 0} (calls : P → Request → Answer → P → Type 0)
    (names : P → ℕ → Result (Option (List ℕ)) Refusal →
    P → Type 0) where
  -- a round broke off: some steps lead to these pads, and what was written is a prefix of what they write
  abbrev pub Breaks : Fault → Stage → World P → P → Wire → Type 0
  Breaks fault first old pads wire =
      (stage : Stage) × (w : World P) × (text rest : List ℕ) × Reaches calls names first old stage w
      × (pads ≡ w.pads)
      × Appends old.wire.written wire.written text × Appends wire.written w.wire.written rest
      × (old.wire.stopped ≡ None → IsCause fault stage rest old.wire wire)

  -- giving operations broke off
  abbrev pub BreaksGiving : Fault → List ℕ → List Op → List Counted → Talk → Wire → Wire → Type 0
  BreaksGiving fault name ops seen talk old new = (turn : ℕ) (pads : P)
      → Breaks fault (Giving name turn seen 0 ops) (world talk pads old) pads new

  -- hearing this many answers broke off
  abbrev pub BreaksHearing : Fault → ℕ → Talk → Wire → Wire → Type 0
  BreaksHearing fault due talk old new =
      (name : List ℕ) (turn : ℕ) (seen : List Counted) (whole : Bool) (pads : P)
      → Breaks fault (Hearing name turn seen due false whole true) (world talk pads old) pads new
