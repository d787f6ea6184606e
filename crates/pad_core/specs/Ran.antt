-- A list of events on a pad.
use Rattle.std.specs.Prelude.{◌≡◌, ◌⊎◌, ℕ, Bool, true, false, Some, List, [], ◌∷◌, Result, Err, IsOk, ◌≢◌}
use Rattle.std.specs.List.{AllByRecursion}
use Rattle.pad_model.specs.declared.op.Op.{Op}
use Rattle.pad_model.specs.declared.refusal.Refusal.{Refusal}
use Rattle.pad_model.specs.declared.refusal.Refusal.TheVariants.{Memory}
use Rattle.pad_model.specs.declared.who.Who.{Who}
use Rattle.pad_model.specs.declared.who.Who.TheVariants.{Nobody, Author, Peer}
use Rattle.pad_core.specs.Closing.{is_closed}
use Rattle.pad_core.specs.Exchange.{Stopped}
use Rattle.pad_core.specs.Machine.{Machine, name_of, step}
use Rattle.pad_core.specs.Times.{timed}
use Rattle.pad_core.specs.declared.act.Act.{Act}
use Rattle.pad_core.specs.declared.act.Act.TheVariants as act
use Rattle.pad_core.specs.declared.event.PadEvent.{PadEvent}
use Rattle.pad_core.specs.declared.reply.PadReply.{PadReply}

-- the session is a peer's
abbrev pub IsPeer : Who → Type 0
IsPeer Nobody = ⊥
IsPeer (Author name) = ⊥
IsPeer (Peer number version) = Unit {0}

-- a peer's push to this pad, which was open, was received, and the release that it began was out of memory for an operation that is
-- ready and still held: those before it were released
abbrev pub IsCutShort : List ℕ → Who → Act → Machine → Machine → Type 0
IsCutShort pad who this old new =
    IsPeer who × (name_of old.owned ≡ Some pad) × (op : Op) × (this ≡ act.Push op)
    × Stopped old.replica op (old.log, old.held) (new.log, new.held)
    × (new ≡ record old {
      log = new.log;
      held = new.held;
      made = timed old.clock 0 old.log new.log old.made;
    })
    × (is_closed old.owned ≡ false)

-- whether an act may take memory: the end of a visit, a caret, the length of a pad, and to close or reopen it take none
abbrev pub takes_memory : Act → Bool
takes_memory act.Leave = false
takes_memory (act.Caret rev at) = false
takes_memory act.Revs = false
takes_memory (act.SetClosed closed) = false
takes_memory other = true

-- the machine's step at an event
abbrev pub event_step : PadEvent → Machine → Result PadReply Refusal × Machine
event_step event m = step event.pad.now event.who.now event.visit event.act.now m

-- the event was answered as the machine answers it; or its act takes memory and was out of it, on a pad of its name
-- where the answer is no refusal, and changed nothing; or it stopped in a release
abbrev pub Stepped : Machine → PadEvent → Result PadReply Refusal → Machine → Type 0
Stepped old event reply new =
    (((reply ≡ Err Memory) × (new ≡ old) × IsOk (event_step event old).0
    × (name_of old.owned ≡ Some event.pad.now)
    × (takes_memory event.act.now ≡ true))
    ⊎ (event_step event old ≡ (reply, new)))
    ⊎ ((reply ≡ Err Memory) × IsCutShort event.pad.now event.who.now event.act.now old new)

-- the machine's replies to a list of events, and its state after them
abbrev pub run : List PadEvent → Machine → List (Result PadReply Refusal) × Machine
run [] m = ([], m)
run (event ∷ events) m = (
  (event_step event m).0 ∷ (run events (event_step event m).1).0,
  (run events (event_step event m).1).1,
)

-- each event was answered by such a step, one after the other
abbrev pub Ran : Machine → List PadEvent → List (Result PadReply Refusal) → Machine → Type 0
Ran m [] [] new = new ≡ m
Ran m [] (reply ∷ replies) new = ⊥
Ran m (event ∷ events) [] new = ⊥
Ran m (event ∷ events) (reply ∷ replies) new = (next : Machine) × Stepped m event reply next
    × Ran next events replies new

-- no reply says that the pad was out of memory
abbrev pub FoundMemory : List (Result PadReply Refusal) → Type 0
FoundMemory replies = AllByRecursion (λ reply. reply ≢ Err Memory) replies
