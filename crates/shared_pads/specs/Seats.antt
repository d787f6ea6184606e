-- What is counted of the calls of a seat, and what their answers say of the log.
use Rattle.std.specs.Prelude.{◌≡◌, ℕ, ◌+◌, ◌==◌, ◌&&◌, not, Bool, true, List, [], ◌∷◌, Option, None, Some, Result, Ok}
use Rattle.std.specs.Prelude.{Err}
use Rattle.std.specs.List.{list_any}
use Rattle.pad_model.specs.declared.op.Op.{Op}
use Rattle.pad_model.specs.declared.refusal.Refusal.{Refusal}
use Rattle.pad_model.specs.declared.refusal.Refusal.TheVariants.{Memory}
use Rattle.pad_core.specs.Audit.{stands_at}
use Rattle.pad_core.specs.declared.act.Act.{Act}
use Rattle.pad_core.specs.declared.act.Act.TheVariants as act
use Rattle.pad_core.specs.declared.reply.PadReply.TheVariants as pad
use Rattle.pad_core.specs.declared.reply.Pushed.{Pushed}
use Rattle.pad_core.specs.declared.reply.Pushed.TheVariants as pushed
use Rattle.pad_core.specs.declared.reply.Reply.{Reply}
use Rattle.pad_core.specs.declared.reply.Reply.TheVariants as reply
use Rattle.pad_core.specs.declared.request.Request.{Request}
use Rattle.pad_core.specs.declared.request.Request.TheVariants as request
use Rattle.shared_pads.specs.declared.seat.Effect.{Effect}
use Rattle.shared_pads.specs.declared.seat.Effect.TheVariants.{Makes, Takes, Keeps}
use Rattle.shared_pads.specs.declared.seat.LastEdit.{LastEdit}
use Rattle.shared_pads.specs.declared.seat.Seat.{Seat}
use Rattle.shared_pads.specs.declared.seat.SeatTally.{SeatTally}

-- what a cell answers, or nothing if its pad has another name
abbrev pub Answer : Type 0
Answer = Result (Option Reply) Refusal

-- what an act does to the operations of a pad: it makes one, takes one of another server, or leaves them as they are
abbrev pub effect_of : Act → Effect
effect_of (act.Insert rev at text) = Makes
effect_of (act.Delete rev at len) = Makes
effect_of (act.Edit rev changes) = Makes
effect_of (act.Comment rev at len text) = Makes
effect_of (act.Resolve resolved) = Makes
effect_of (act.Push op) = Takes
effect_of other = Keeps

-- the edit that an answer reports
abbrev pub edit_told : Answer → Option LastEdit
edit_told (Ok (Some (reply.Pad (pad.Made now name)))) = Some (record { name = name; rev = now })
edit_told (Ok (Some (reply.Pad (pad.Changed now name hidden)))) = Some
    (record { name = name; rev = now })
edit_told other = None

-- the edit that the answer to an act reports
abbrev pub edit_by : Effect → Answer → Option LastEdit
edit_by Makes answer = edit_told answer
edit_by Takes answer = None
edit_by Keeps answer = None

-- the edit that the answer to a request reports
abbrev pub edit_of : Request → Answer → Option LastEdit
edit_of (request.On name act) answer = edit_by (effect_of act) answer
edit_of other answer = None

-- the last edit after a call
abbrev pub last_after : Option LastEdit → Option LastEdit → Option LastEdit
last_after None before = before
last_after (Some edit) before = Some edit

-- no call was made yet
abbrev pub uncounted : SeatTally
uncounted = record { calls = 0; operations = 0; last = None }

-- a tally with one more call, which delivered this many operations and may have been an edit
abbrev pub counted : ℕ → Option LastEdit → SeatTally → SeatTally
counted more edit t = record {
  calls = t.calls + 1;
  operations = t.operations + more;
  last = last_after edit t.last;
}

-- the operation of a last edit is in the log at its revision
abbrev pub Stands : List Op → Option LastEdit → Type 0
Stands log None = Unit {0}
Stands log (Some edit) = stands_at edit.name edit.rev log ≡ true

-- one operation if an edit was made, and otherwise none
abbrev pub made_in : Answer → ℕ
made_in (Ok (Some answer)) = 1
made_in other = 0

-- one operation if a pushed one was delivered, and otherwise none
abbrev pub taken_as : Pushed → ℕ
taken_as pushed.Delivered = 1
taken_as pushed.Held = 0
taken_as pushed.Repeat = 0

-- an answer says that a pad has this many more operations: an edit's own, and a push's and those that it released. A
-- push that was out of memory does not say
abbrev pub TellsOf : Effect → Answer → ℕ → Type 0
TellsOf Makes answer more = more ≡ made_in answer
TellsOf Takes (Ok (Some (reply.Pad (pad.Pushed now state released dropped)))) more = more
    ≡ released + taken_as state
TellsOf Takes (Ok other) more = more ≡ 0
TellsOf Takes (Err refusal) more = (refusal ≡ Memory → ⊥) → more ≡ 0
TellsOf Keeps answer more = more ≡ 0

-- the answer to a request says that a pad has this many more operations
abbrev pub Tells : Request → Answer → ℕ → Type 0
Tells (request.On name act) answer more = TellsOf (effect_of act) answer more
Tells other answer more = more ≡ 0

-- whether no two seats have one number
abbrev pub are_apart : List Seat → Bool
are_apart [] = true
are_apart (first ∷ rest) = not (list_any (λ seat. seat.number == first.number) rest)
    && are_apart rest
