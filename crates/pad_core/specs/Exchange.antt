-- What servers exchange about a pad: causal delivery.
use Rattle.std.specs.Prelude.{◌≡◌, ℕ, zero, suc, ◌+◌, Bool, true, not, ◌||◌, ◌==◌, nat_lt, nat_le, if◌then◌else◌, List}
use Rattle.std.specs.Prelude.{[], ◌∷◌, ◌++◌, length, Option, Some, None, Result, Ok, Err, IsOk}
use Rattle.std.specs.List.{find}
use Rattle.pad_model.specs.Checked.{is_checked}
use Rattle.pad_model.specs.OldWire.{op_in_v1, seen_in_v1}
use Rattle.pad_model.specs.declared.op.Op.{Op}
use Rattle.pad_model.specs.declared.seen.Counted.{Counted}
use Rattle.pad_model.specs.declared.who.Version.{Version}
use Rattle.pad_model.specs.declared.who.Version.TheVariants.{One, Two}
use Rattle.pad_model.specs.declared.refusal.Refusal.{Refusal}
use Rattle.pad_model.specs.declared.refusal.Refusal.TheVariants.{BadOp, PeerFault, HoldFull, OldPeer, Empty, TooMuch}
use Rattle.holdback.specs.Held.{is_covered, is_held, is_ready, with_held, without}
use Rattle.holdback.specs.declared.held.TheConstants.{MAX_HELD}
use Rattle.op_log.specs.Log.{missing}
use Rattle.pad_core.specs.Counts.{vector_of}
use Rattle.pad_core.specs.Delivered.{delivery_refusal}
use Rattle.pad_core.specs.Batch.{batch_of}
use Rattle.pad_core.specs.declared.exchange.TheConstants.{MAX_BATCH, MAX_PULL}
use Rattle.pad_core.specs.declared.reply.Pushed.{Pushed}
use Rattle.pad_core.specs.declared.reply.Pushed.TheVariants.{Repeat, Held, Delivered}
use Rattle.pad_core.specs.declared.reply.PadReply.{PadReply}
use Rattle.pad_core.specs.declared.reply.PadReply.TheVariants as reply

-- whether a vector can be sent to a peer
abbrev pub can_tell : Version → List Counted → Bool
can_tell One seen = seen_in_v1 seen
can_tell Two seen = true

-- the counts of the operations, which an old peer may not be able to read
abbrev pub read_vector : Version → List Op → Result PadReply Refusal
read_vector version log = if can_tell version (vector_of log)
    then Ok (reply.Vector (length log) (vector_of log))
    else Err OldPeer

-- whether a peer can read an operation
abbrev pub can_read : Version → Op → Bool
can_read One op = op_in_v1 op
can_read Two op = true

-- operations up to the first that an old peer cannot read
abbrev pub sayable : List Op → List Op
sayable [] = []
sayable (op ∷ ops) = if op_in_v1 op then op ∷ sayable ops else []

-- operations up to the first that a peer cannot read
abbrev pub readable : Version → List Op → List Op
readable One ops = sayable ops
readable Two ops = ops

-- what a peer is given of the operations that it lacks: an old one nothing from the first on that it cannot read
abbrev pub given : Version → List Op → Result (List Op) Refusal
given Two ops = Ok ops
given One [] = Ok []
given One (op ∷ ops) = if op_in_v1 op then Ok (op ∷ sayable ops) else Err OldPeer

-- whether a peer can be given anything: an old one has to be able to read the first operation that it lacks, if any
abbrev pub can_give : Version → Option Op → Bool
can_give Two first = true
can_give One None = true
can_give One (Some op) = op_in_v1 op

-- the answer that gives these operations, or none of them
abbrev pub told : ℕ → Result (List Op) Refusal → Result PadReply Refusal
told now (Ok ops) = Ok (reply.Pulled now ops)
told now (Err refusal) = Err refusal

-- the first n operations that a peer lacks, as many of these as fit in an answer, but at least the first
abbrev pub pull_batch : Version → List Counted → ℕ → List Op → Result PadReply Refusal
pull_batch version seen n log =
    if n == 0 then Err Empty
    else if nat_lt MAX_BATCH n then Err TooMuch
    else told (length log) (given version (batch_of (missing log seen n)))

-- the first operations that a peer lacks, or a batch of them
abbrev pub pull : Version → List Counted → ℕ → Option ℕ → List Op → Result PadReply Refusal
pull version seen most batch log =
    if most == 0 then Err Empty
    else if nat_lt MAX_PULL most then Err TooMuch
    else asked batch
  where
    asked : Option ℕ → Result PadReply Refusal
    asked None = told (length log) (given version (missing log seen most))
    asked (Some n) = pull_batch version seen n log

-- a log, what is held back, and how many held operations were delivered and dropped so far
pub record Delivery : Type 0 where
  pub log : List Op
  pub held : List Op
  pub released : ℕ
  pub dropped : ℕ

-- the operation is taken out of what is held: delivered, or dropped where it would be refused
abbrev pub taken_out : Op → Option Refusal → Delivery → Delivery
taken_out op None d = record d {
  log = d.log ++ op ∷ [];
  held = without op.name d.held;
  released = d.released + 1;
}
taken_out op (Some refusal) d = record d { held = without op.name d.held; dropped = d.dropped + 1 }

-- one step of a release takes the ready operation of the least origin; held operations are in order of name
abbrev pub release : Delivery → Delivery
release d = take_ready (find (is_ready (vector_of d.log)) d.held)
  where
    take_ready : Option Op → Delivery
    take_ready None = d
    take_ready (Some op) = taken_out op (delivery_refusal op d.log) d

-- some steps of a release
abbrev pub steps : ℕ → Delivery → Delivery
steps zero d = d
steps (suc n) d = release (steps n d)

-- a release goes on while an operation is ready, which is as often as there are held ones at most
abbrev pub settle : Delivery → Delivery
settle d = steps (length d.held) d

-- a release that begins
abbrev pub unsettled : List Op × List Op → Delivery
unsettled now = record { log = now.0; held = now.1; released = 0; dropped = 0 }

-- the log and what is held, after some steps
abbrev pub both_of : Delivery → List Op × List Op
both_of d = (d.log, d.held)

-- an operation that is ready is delivered, unless it is refused
abbrev pub delivered : Op → Option Refusal → List Op → List Op
    → Result Pushed Refusal × (List Op × List Op)
delivered op (Some refusal) log held = (Err refusal, (log, held))
delivered op None log held = (Ok Delivered, (log ++ op ∷ [], held))

-- an operation that has to wait is held, unless too many are
abbrev pub waiting : Op → List Op → Result Pushed Refusal × List Op
waiting op held = if nat_le MAX_HELD (length held) then (Err HoldFull, held)
    else (Ok Held, with_held op held)

-- what becomes of a pushed operation before the release, and the log and what is held then
abbrev pub received : ℕ → Op → List Op × List Op → Result Pushed Refusal × (List Op × List Op)
received own op (log, held) =
    if not (is_checked op) then (Err BadOp, (log, held))
    else if is_covered (vector_of log) op.name || is_held op.name held then (Ok Repeat, (log, held))
    else if op.name.origin == own then (Err PeerFault, (log, held))
    else if is_ready (vector_of log) op then delivered op (delivery_refusal op log) log held
    else if nat_le MAX_HELD (length held) then (Err HoldFull, (log, held))
    else (Ok Held, (log, with_held op held))

-- the release after a state, and the answer
abbrev pub settled : Result Pushed Refusal × (List Op × List Op)
    → Result PadReply Refusal × (List Op × List Op)
settled (Err refusal, now) = (Err refusal, now)
settled (Ok state, now) = let d = settle (unsettled now) in
    (Ok (reply.Pushed (length d.log) state d.released d.dropped), both_of d)

-- a pushed operation
abbrev pub push : ℕ → Op → List Op × List Op → Result PadReply Refusal × (List Op × List Op)
push own op now = settled (received own op now)

-- the next operation of a release would be delivered, which takes memory
abbrev pub IsStuck : List Op × List Op → Type 0
IsStuck now = (op : Op) × (find (is_ready (vector_of now.0)) now.1 ≡ Some op)
    × (delivery_refusal op now.0 ≡ None)

-- a push was received, and its release stopped after some steps, with an operation ready to be delivered that is still
-- held
abbrev pub Stopped : ℕ → Op → List Op × List Op → List Op × List Op → Type 0
Stopped own op old new =
    IsOk (received own op old).0 × (n : ℕ)
    × (new ≡ both_of (steps n (unsettled (received own op old).1))) × IsStuck new
