-- A relay round, stage by stage: what a server writes to a peer and does with its own pads, given the peer's lines.
use Rattle.std.specs.Prelude.{◌≡◌, ℕ, zero, suc, ◌+◌, nat_le, nat_lt, ◌||◌, ◌&&◌, Bool, true, false, if◌then◌else◌}
use Rattle.std.specs.Prelude.{slice_index_or, slice_set, List, [], ◌∷◌, ◌++◌, Option, None, Some, Result, Ok, Err}
use Rattle.serde_json.specs.Data.{Data}
use Rattle.serde_json.specs.Written.{compact_text}
use Rattle.pad_model.specs.OldWire.{op_in_v1, seen_in_v1}
use Rattle.pad_model.specs.Seen.{count_in, with_count}
use Rattle.pad_model.specs.declared.op.Op.{Op}
use Rattle.pad_model.specs.declared.refusal.Refusal.{Refusal}
use Rattle.pad_model.specs.declared.refusal.Refusal.TheVariants as refusal
use Rattle.pad_model.specs.declared.seen.Counted.{Counted}
use Rattle.pad_model.specs.declared.who.Version.{Version}
use Rattle.pad_model.specs.declared.who.Version.TheVariants as version
use Rattle.pad_core.specs.declared.act.Act.{Act}
use Rattle.pad_core.specs.declared.act.Act.TheVariants as act
use Rattle.pad_core.specs.declared.exchange.TheConstants.{MAX_BATCH}
use Rattle.pad_core.specs.declared.reply.PadReply.TheVariants as pad
use Rattle.pad_core.specs.declared.reply.Pushed.{Pushed}
use Rattle.pad_core.specs.declared.reply.Pushed.TheVariants as pushed
use Rattle.pad_core.specs.declared.reply.Reply.TheVariants as reply
use Rattle.pad_core.specs.declared.request.Request.{Request}
use Rattle.pad_core.specs.declared.request.Request.TheVariants as request
use Rattle.wire_json.specs.Peers.{peer_request, pull_request, vector_request, push_request, peer_answer, vector_answer}
use Rattle.wire_json.specs.Peers.{pull_answer, push_answer}
use Rattle.wire_json.specs.declared.peer_answer.Told.{Told}
use Rattle.wire_json.specs.declared.peer_answer.Told.TheVariants.{Said, Refused}
use Rattle.wire_lines.specs.declared.fault.Fault.{Fault}
use Rattle.wire_lines.specs.declared.fault.Fault.TheVariants.{PeerReply, Memory}
use Rattle.conversation.specs.Delivered.{delivered_of}
use Rattle.conversation.specs.Session.{Answer}
use Rattle.relay.specs.Counts.{with_pull, with_pulled, with_pushed, with_refused, with_unsaid}
use Rattle.relay.specs.Wire.{Wire, Writes, HearsAs}
use Rattle.relay.specs.declared.limits.TheConstants.{MAX_OPS, MAX_PULL_TURNS, MAX_PUSH_TURNS}
use Rattle.relay.specs.declared.relayed.Relayed.{Relayed}

-- the stages of a round: what it does next
pub data Stage : Type 0 where
  -- the peer is to be greeted, with this server's number and the shared token
  Greeting : ℕ → List ℕ → Stage
  -- the answer to the greeting is due
  Greeted : Stage
  -- the next cell is to be looked at
  Next : Stage
  -- operations of a pad are to be pulled, after this many turns
  Pulling : List ℕ → ℕ → Stage
  -- the answer to a pull is due
  Pulled : List ℕ → ℕ → Stage
  -- these pulled operations are to be delivered here; whether any was in this turn
  Taking : List ℕ → ℕ → Bool → List Op → Stage
  -- operations of a pad are to be pushed, after this many turns
  Pushing : List ℕ → ℕ → Stage
  -- the answer to a vector is due
  Counting : List ℕ → ℕ → Stage
  -- the operations that the peer's vector lacks are to be looked up
  Lacking : List ℕ → ℕ → List Counted → Stage
  -- these operations are to be written, after this many; all of them, unless the peer's version cannot express one. The
  -- vector is that of a peer that has those that were written
  Giving : List ℕ → ℕ → List Counted → ℕ → List Op → Stage
  -- this many answers to pushes are due, after which the peer has this vector if it has all that was pushed; whether any
  -- operation was delivered; whether the pad may have another turn; whether the peer has all so far
  Hearing : List ℕ → ℕ → List Counted → ℕ → Bool → Bool → Bool → Stage
  -- the exchange of this pad is over
  Over : Stage
  -- the round is made
  Ended : Stage
  -- the round ends in a fault
  Failed : Fault → Stage

-- a round under way: the number of cells, and the next one; the peer's version; the results so far; what the peer is known
-- to have of the pad of each cell; the pads; and the wire
pub record World (P : Type 0) : Type 0 where
  pub cells : ℕ
  pub cell : ℕ
  pub version : Version
  pub relayed : Relayed
  pub known : List (Option (List Counted))
  pub pads : P
  pub wire : Wire

-- the line of a request
abbrev pub line_of : Data → List ℕ
line_of d = compact_text d ++ 10 ∷ []

-- one of two, by a test
abbrev pub Choice : Bool → Type 0 → Type 0 → Type 0
Choice true A B = A
Choice false A B = B

-- the name of a cell by this server's answer; a refusal skips the cell, and running out of memory ends the round
abbrev pub own_name : Result (Option (List ℕ)) Refusal → Result (Option (List ℕ)) Fault
own_name (Ok name) = Ok name
own_name (Err refusal.Memory) = Err Memory
own_name (Err other) = Ok None

-- this server's own vector of a pad, if its answer has one
abbrev pub own_vector : Answer → Result (Option (List Counted)) Fault
own_vector (Ok (reply.Pad (pad.Vector now seen))) = Ok (Some seen)
own_vector (Ok other) = Ok None
own_vector (Err refusal.Memory) = Err Memory
own_vector (Err other) = Ok None

-- the operations in this server's answer, if it has any
abbrev pub own_ops : Answer → Result (Option (List Op)) Fault
own_ops (Ok (reply.Pad (pad.Pulled now ops))) = Ok (Some ops)
own_ops (Ok other) = Ok None
own_ops (Err refusal.Memory) = Err Memory
own_ops (Err other) = Ok None

-- how many operations this server delivered, unless it refused
abbrev pub own_count : Answer → Result (Option ℕ) Fault
own_count (Ok said) = Ok (Some (delivered_of (Ok said)))
own_count (Err refusal.Memory) = Err Memory
own_count (Err other) = Ok None

-- whether the peer delivered an operation
abbrev pub is_delivered : Told Pushed → Bool
is_delivered (Said pushed.Delivered) = true
is_delivered other = false

-- the results after the peer's answer to a push
abbrev pub after_push : Told Pushed → Relayed → Relayed
after_push (Said pushed.Delivered) r = with_pushed r
after_push (Said other) r = r
after_push Refused r = with_refused r

-- whether a peer has an operation, by its answer to a push
abbrev pub is_had : Told Pushed → Bool
is_had (Said pushed.Delivered) = true
is_had (Said pushed.Repeat) = true
is_had other = false

-- the vector of a peer that has this operation too, and with it all earlier ones of its origin
abbrev pub with_op : Op → List Counted → List Counted
with_op op seen = if nat_lt (count_in seen op.name.origin) op.name.number
    then with_count seen op.name.origin op.name.number
    else seen

-- what a peer is known to have: this vector, if it has all that was pushed
abbrev pub if_all : Bool → List Counted → Option (List Counted)
if_all true seen = Some seen
if_all false seen = None

-- what the peer is known to have of the pad of a cell
abbrev pub known_at : List (Option (List Counted)) → ℕ → Option (List Counted)
known_at known cell = slice_index_or known cell None

-- how the exchange of a pad begins: if it is known what the peer has, nothing is pulled
abbrev pub first_of : List ℕ → Option (List Counted) → Stage
first_of name None = Pulling name 0
first_of name (Some seen) = Pushing name 0

-- whether a peer can read something, by whether version 1 can express it
abbrev pub is_readable : Version → Bool → Bool
is_readable version.One in_v1 = in_v1
is_readable version.Two in_v1 = true

module _ {P : Type 0} where
  -- a world with other pads
  abbrev pub with_pads : P → World P → World P
  with_pads pads w = record {
    cells = w.cells;
    cell = w.cell;
    version = w.version;
    relayed = w.relayed;
    known = w.known;
    pads = pads;
    wire = w.wire;
  }

  -- a world with another wire
  abbrev pub with_wire : Wire → World P → World P
  with_wire wire w = record {
    cells = w.cells;
    cell = w.cell;
    version = w.version;
    relayed = w.relayed;
    known = w.known;
    pads = w.pads;
    wire = wire;
  }

  -- a world with changed results
  abbrev pub counted : (Relayed → Relayed) → World P → World P
  counted more w = record {
    cells = w.cells;
    cell = w.cell;
    version = w.version;
    relayed = more w.relayed;
    known = w.known;
    pads = w.pads;
    wire = w.wire;
  }

  -- a world whose peer reads another version
  abbrev pub with_version : Version → World P → World P
  with_version version w = record {
    cells = w.cells;
    cell = w.cell;
    version = version;
    relayed = w.relayed;
    known = w.known;
    pads = w.pads;
    wire = w.wire;
  }

  -- a world that knows this of the pad of its cell
  abbrev pub noted : Option (List Counted) → World P → World P
  noted seen w = record {
    cells = w.cells;
    cell = w.cell;
    version = w.version;
    relayed = w.relayed;
    known = slice_set w.known w.cell seen;
    pads = w.pads;
    wire = w.wire;
  }

  -- a world that looks at the next cell
  abbrev pub past : World P → World P
  past w = record {
    cells = w.cells;
    cell = w.cell + 1;
    version = w.version;
    relayed = w.relayed;
    known = w.known;
    pads = w.pads;
    wire = w.wire;
  }

  -- a request is written
  abbrev pub Sends : Data → World P → World P → Type 0
  Sends d old new = Writes (line_of d) old.wire new.wire × (new ≡ with_wire new.wire old)

  -- a request is written, if there is one
  abbrev pub SendsIf : Option Data → World P → World P → Type 0
  SendsIf None old new = new ≡ old
  SendsIf (Some d) old new = Sends d old new

  -- an answer is heard
  abbrev pub Heard : {A : Type 0} → (Data → Option A) → Option (Told A) → World P → World P → Type 0
  Heard form said old new = HearsAs form said old.wire new.wire × (new ≡ with_wire new.wire old)

  -- after the answer to the greeting
  abbrev pub greeted : Option (Told Version) → World P → Stage × World P
  greeted None w = (Failed PeerReply, w)
  greeted (Some Refused) w = (Failed PeerReply, w)
  greeted (Some (Said version)) w = (Next, with_version version w)

  -- after a look at a cell: one without a pad is skipped, and if it is known what the peer has, the peer is not asked
  abbrev pub named : Result (Option (List ℕ)) Fault → World P → Stage × World P
  named (Ok None) w = (Over, w)
  named (Ok (Some name)) w = (first_of name (known_at w.known w.cell), w)
  named (Err fault) w = (Failed fault, w)

  -- after this server's own vector: what it lacks is asked for, if the peer can read the vector
  abbrev pub asked : List ℕ → ℕ → Result (Option (List Counted)) Fault → World P
      → Stage × World P × Option Data
  asked name turn (Ok None) w = (Over, w, None)
  asked name turn (Ok (Some seen)) w =
      if is_readable w.version (seen_in_v1 seen)
      then (Pulled name turn, w, Some (pull_request name seen MAX_OPS (Some MAX_BATCH)))
      else (Over, counted with_unsaid w, None)
  asked name turn (Err fault) w = (Failed fault, w, None)

  -- after the answer to a pull
  abbrev pub pulled : List ℕ → ℕ → Option (Told (List Op)) → World P → Stage × World P
  pulled name turn None w = (Failed PeerReply, w)
  pulled name turn (Some Refused) w = (Over, w)
  pulled name turn (Some (Said ops)) w = (Taking name turn false ops, counted (with_pull turn) w)

  -- after the delivery of an operation here
  abbrev pub taken : List ℕ → ℕ → Bool → List Op → Result (Option ℕ) Fault → World P
      → Stage × World P
  taken name turn gained ops (Ok None) w = (Taking name turn gained ops, counted with_refused w)
  taken name turn gained ops (Ok (Some count)) w = (
    Taking name turn (gained || nat_lt 0 count) ops,
    counted (with_pulled count) w,
  )
  taken name turn gained ops (Err fault) w = (Failed fault, w)

  -- after the answer to a vector
  abbrev pub told_vector : List ℕ → ℕ → Option (Told (List Counted)) → World P → Stage × World P
  told_vector name turn None w = (Failed PeerReply, w)
  told_vector name turn (Some Refused) w = (Over, w)
  told_vector name turn (Some (Said seen)) w = (Lacking name turn seen, w)

  -- after a look for what the peer lacks
  abbrev pub lacked : List ℕ → ℕ → List Counted → Result (Option (List Op)) Fault → World P
      → Stage × World P
  lacked name turn seen (Ok None) w = (Over, w)
  lacked name turn seen (Ok (Some ops)) w = (Giving name turn seen 0 ops, w)
  lacked name turn seen (Err fault) w = (Failed fault, w)

  -- after the answer to a push
  abbrev pub told_push : List ℕ → ℕ → List Counted → ℕ → Bool → Bool → Bool → Option (Told Pushed)
      → World P → Stage × World P
  told_push name turn seen due gained whole all None w = (Failed PeerReply, w)
  told_push name turn seen due gained whole all (Some told) w = (
    Hearing name turn seen due (gained || is_delivered told) whole (all && is_had told),
    counted (after_push told) w,
  )

  -- a push begins: the peer is asked what it has, unless that is known. What is known is forgotten until the peer's answers
  -- to the pushes say it again
  abbrev pub Begins : List ℕ → ℕ → Option (List Counted) → World P → Stage → World P → Type 0
  Begins name turn None old stage new = Sends (vector_request name) old new
      × (stage ≡ Counting name turn)
  Begins name turn (Some seen) old stage new = (stage ≡ Lacking name turn seen)
      × (new ≡ noted None old)

-- how a round proceeds
module _ {P : Type 0} (calls : P → Request → Answer → P → Type 0)
    (names : P → ℕ → Result (Option (List ℕ)) Refusal →
    P → Type 0) where
  -- a pad is asked here
  abbrev pub Asks : List ℕ → Act → Answer → World P → World P → Type 0
  Asks name act answer old new = calls old.pads (request.On name act) answer new.pads
      × (new ≡ with_pads new.pads old)

  -- one step of a round, by its stage
  abbrev pub Goes : Stage → World P → Stage → World P → Type 0
  Goes (Greeting own token) old stage new = Sends (peer_request own token) old new
      × (stage ≡ Greeted)
  Goes Greeted old stage new = (said : Option (Told Version)) × (mid : World P)
      × Heard peer_answer said old mid
      × ((stage, new) ≡ greeted said mid)
  Goes Next old stage new =
      Choice (nat_le old.cells old.cell) ((stage ≡ Ended) × (new ≡ old))
      ((name : Result (Option (List ℕ)) Refusal) × (mid : World P)
      × names old.pads old.cell name mid.pads
      × (mid ≡ with_pads mid.pads old)
      × ((stage, new) ≡ named (own_name name) mid))
  Goes (Pulling name turn) old stage new =
      Choice (nat_le MAX_PULL_TURNS turn) ((stage ≡ Pushing name 0) × (new ≡ old))
      ((said : Answer) × (mid : World P) × Asks name act.Vector said old mid
      × (stage ≡ (asked name turn (own_vector said) mid).0)
      × SendsIf (asked name turn (own_vector said) mid).2 (asked name turn (own_vector said) mid).1
      new)
  Goes (Pulled name turn) old stage new =
      (said : Option (Told (List Op))) × (mid : World P) × Heard pull_answer said old mid
      × ((stage, new) ≡ pulled name turn said mid)
  Goes (Taking name turn gained []) old stage new =
      (stage ≡ (if gained then Pulling name (turn + 1) else Pushing name 0)) × (new ≡ old)
  Goes (Taking name turn gained (op ∷ ops)) old stage new =
      (said : Answer) × (mid : World P) × Asks name (act.Push op) said old mid
      × ((stage, new) ≡ taken name turn gained ops (own_count said) mid)
  Goes (Pushing name turn) old stage new =
      Choice (nat_le MAX_PUSH_TURNS turn) ((stage ≡ Over) × (new ≡ old))
      (Begins name turn (known_at old.known old.cell) old stage new)
  Goes (Counting name turn) old stage new =
      (said : Option (Told (List Counted))) × (mid : World P) × Heard vector_answer said old mid
      × ((stage, new) ≡ told_vector name turn said mid)
  Goes (Lacking name turn seen) old stage new =
      (said : Answer) × (mid : World P)
      × Asks name (act.Pull seen MAX_OPS (Some MAX_BATCH)) said old mid
      × ((stage, new) ≡ lacked name turn seen (own_ops said) mid)
  Goes (Giving name turn seen due []) old stage new =
      (stage ≡ Hearing name turn seen due false true true) × (new ≡ old)
  Goes (Giving name turn seen due (op ∷ ops)) old stage new =
      Choice (is_readable old.version (op_in_v1 op)) (Sends (push_request name op) old new
      × (stage ≡ Giving name turn (with_op op seen) (due + 1) ops))
      ((stage ≡ Hearing name turn seen due false false true) × (new ≡ counted with_unsaid old))
  Goes (Hearing name turn seen zero gained whole all) old stage new =
      (stage ≡ (if gained && whole then Pushing name (turn + 1) else Over))
      × (new ≡ noted (if_all all seen) old)
  Goes (Hearing name turn seen (suc due) gained whole all) old stage new =
      (said : Option (Told Pushed)) × (mid : World P) × Heard push_answer said old mid
      × ((stage, new) ≡ told_push name turn seen due gained whole all said mid)
  Goes Over old stage new = (stage ≡ Next) × (new ≡ past old)
  Goes Ended old stage new = ⊥
  Goes (Failed fault) old stage new = ⊥

  -- some steps of a round
  pub data Reaches : Stage → World P → Stage → World P → Type 0 where
    here : {stage : Stage} {w : World P} → Reaches stage w stage w
    on : {first mid last : Stage} {u v w : World P} → Goes first u mid v → Reaches mid v last w
        → Reaches first u last w
