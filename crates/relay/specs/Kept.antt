-- The world of a round as the code keeps it, and the outcomes of its parts.
use Rattle.std.specs.Prelude.{◌≡◌, ◌⊎◌, ℕ, ◌+◌, slice_set, Bool, true, false, List, [], Option, None, Some, Result, Err}
use Rattle.pad_model.specs.OldWire.{seen_in_v1}
use Rattle.pad_model.specs.declared.op.Op.{Op}
use Rattle.pad_model.specs.declared.refusal.Refusal.{Refusal}
use Rattle.pad_model.specs.declared.seen.Counted.{Counted}
use Rattle.pad_model.specs.declared.who.Version.{Version}
use Rattle.pad_model.specs.declared.who.Version.TheVariants.{One}
use Rattle.pad_core.specs.declared.act.Act.{Act}
use Rattle.pad_core.specs.declared.exchange.TheConstants.{MAX_BATCH}
use Rattle.pad_core.specs.declared.request.Request.{Request}
use Rattle.pad_core.specs.declared.request.Request.TheVariants.{On}
use Rattle.wire_json.specs.Peers.{peer_answer, peer_request, pull_request}
use Rattle.wire_json.specs.declared.peer_answer.Told.{Told}
use Rattle.wire_json.specs.declared.peer_answer.Told.TheVariants.{Said, Refused}
use Rattle.wire_lines.specs.declared.fault.Fault.{Fault}
use Rattle.wire_lines.specs.declared.fault.Fault.TheVariants.{WriteFault, PeerReply, Memory}
use Rattle.conversation.specs.Session.{Answer}
use Rattle.relay.specs.Counts.{none_yet, with_unsaid}
use Rattle.relay.specs.Round.{Stage, World, Reaches, is_readable, line_of}
use Rattle.relay.specs.Round.Stage.{Giving, Greeting, Hearing, Next, Pulling, Pushing, Over, Ended}
use Rattle.relay.specs.Wire.{Wire, HearsAs, MissesAnswer, Writes, WritesPart}
use Rattle.relay.specs.declared.exchanged.Exchanged.{Exchanged}
use Rattle.relay.specs.declared.limits.TheConstants.{MAX_OPS}
use Rattle.relay.specs.declared.pull.PullTurn.{PullTurn}
use Rattle.relay.specs.declared.pull.PullTurn.TheVariants as turn_of
use Rattle.relay.specs.declared.push.GivenBatch.{GivenBatch}
use Rattle.relay.specs.declared.push.HeardBatch.{HeardBatch}
use Rattle.relay.specs.declared.relayed.Relayed.{Relayed}
use Rattle.relay.specs.declared.talk.Talk.{Talk}

-- the world of a round's state, the pads and a wire
abbrev pub world : {P : Type 0} → Talk → P → Wire → World P
world talk pads wire = record {
  cells = talk.cells;
  cell = talk.cell;
  version = talk.version;
  relayed = talk.relayed;
  known = talk.known;
  pads = pads;
  wire = wire;
}

-- the world before a round: it is not known what the peer has
abbrev pub begun : {P : Type 0} → ℕ → P → Wire → World P
begun cells pads wire = record {
  cells = cells;
  cell = 0;
  version = One;
  relayed = none_yet;
  known = [];
  pads = pads;
  wire = wire;
}

-- the world of a peer that was greeted, before a visit to the cells, of whose pads it is known to have this
abbrev pub ready : {P : Type 0} → Version → ℕ → List (Option (List Counted)) → P → Wire → World P
ready version cells known pads wire = record {
  cells = cells;
  cell = 0;
  version = version;
  relayed = none_yet;
  known = known;
  pads = pads;
  wire = wire;
}

-- the stage after a turn of pulling
abbrev pub after_turn : List ℕ → ℕ → PullTurn → Stage
after_turn name turn turn_of.Gained = Pulling name (turn + 1)
after_turn name turn turn_of.Spent = Pushing name 0
after_turn name turn turn_of.Over = Over

-- a line was written in part, or not at all
abbrev pub IsUnsent : Fault → List ℕ → Wire → Wire → Type 0
IsUnsent fault line old new = ((fault ≡ WriteFault) × WritesPart line old new)
    ⊎ ((fault ≡ Memory) × (new ≡ old))

-- the state of a round with changed results
abbrev pub counts : (Relayed → Relayed) → Talk → Talk
counts more talk = record {
  cells = talk.cells;
  cell = talk.cell;
  version = talk.version;
  relayed = more talk.relayed;
  known = talk.known;
}

-- the state of a round that knows this of the pad of its cell
abbrev pub notes : Option (List Counted) → Talk → Talk
notes seen talk = record {
  cells = talk.cells;
  cell = talk.cell;
  version = talk.version;
  relayed = talk.relayed;
  known = slice_set talk.known talk.cell seen;
}

-- operations of a pad were written to a peer, as far as its version can express them, or its version ended this; with
-- them the peer has this vector
abbrev pub Gives : {P : Type 0} → (P → Request → Answer → P → Type 0) →
    (P → ℕ → Result (Option (List ℕ)) Refusal → P → Type 0) → List ℕ → List Op → GivenBatch →
    List Counted → List Counted → Talk → Wire → Talk → Wire → Type 0
Gives {P} calls names name ops given seen after talk old then new = (turn : ℕ) (pads : P)
    → Reaches calls names (Giving name turn seen 0 ops) (world talk pads old)
    (Hearing name turn after given.due false given.whole true) (world then pads new)

-- this many answers to pushes were heard
abbrev pub HearsAll : {P : Type 0} → (P → Request → Answer → P → Type 0) →
    (P → ℕ → Result (Option (List ℕ)) Refusal → P → Type 0) → ℕ → HeardBatch →
    Talk → Wire → Talk → Wire → Type 0
HearsAll {P} calls names due heard talk old then new =
    (name : List ℕ) (turn : ℕ) (seen : List Counted) (whole : Bool) (pads : P)
    → Reaches calls names (Hearing name turn seen due false whole true) (world talk pads old)
    (Hearing name turn seen 0 heard.gained whole heard.all) (world then pads new)

-- this server's vector was sent to the peer, or the peer cannot read it
abbrev pub SendsPull : List ℕ → List Counted → Bool → Talk → Wire → Talk → Wire → Type 0
SendsPull name seen true talk old then new =
    (is_readable talk.version (seen_in_v1 seen) ≡ true)
    × Writes (line_of (pull_request name seen MAX_OPS (Some MAX_BATCH))) old new
    × (then ≡ talk)
SendsPull name seen false talk old then new =
    (is_readable talk.version (seen_in_v1 seen) ≡ false) × (new ≡ old)
    × (then ≡ counts with_unsaid talk)

-- a pad of this server was asked, and the result is the answer as the round reads it; or there was no memory to ask
abbrev pub AsksFor : {P A : Type 0} → (P → Request → Answer → P → Type 0) → List ℕ → Act
    → (Answer → Result A Fault) →
    Result A Fault → P → P → Type 0
AsksFor calls name act own result old new =
    ((said : Answer) × calls old (On name act) said new × (result ≡ own said))
    ⊎ ((result ≡ Err Memory) × (new ≡ old))

-- some steps without the peer lead to these pads, and then memory ran out
abbrev pub Lacks : {P : Type 0} → (P → Request → Answer → P → Type 0) →
    (P → ℕ → Result (Option (List ℕ)) Refusal → P → Type 0) → Fault → Stage → World P → P → Type 0
Lacks {P} calls names fault first old pads =
    (fault ≡ Memory) × (stage : Stage) × (w : World P) × Reaches calls names first old stage w
    × (pads ≡ w.pads)
    × (w.wire ≡ old.wire)

-- the peer was greeted, and answered that it reads this version
abbrev pub Greets : ℕ → List ℕ → Version → Wire → Wire → Type 0
Greets own token version old new =
    (mid : Wire) × Writes (line_of (peer_request own token)) old mid
    × HearsAs peer_answer (Some (Said version)) mid new

-- the peer refused the greeting, or its line was not an answer
abbrev pub IsTurnedAway : Fault → Wire → Wire → Type 0
IsTurnedAway fault old new =
    (fault ≡ PeerReply) × (said : Option (Told Version)) × ((said ≡ Some Refused) ⊎ (said ≡ None))
    × HearsAs peer_answer said old new

-- the greeting was not written or only in part; or no answer to it was heard; or the peer turned the server away
abbrev pub MissesGreeting : ℕ → List ℕ → Fault → Wire → Wire → Type 0
MissesGreeting own token fault old new =
    IsUnsent fault (line_of (peer_request own token)) old new
    ⊎ ((mid : Wire) × Writes (line_of (peer_request own token)) old mid
    × (MissesAnswer fault mid new ⊎ IsTurnedAway fault mid new))

-- the cells from here on were visited, with these results, and the peer is known to have this
abbrev pub Visited : {P : Type 0} → (P → Request → Answer → P → Type 0) →
    (P → ℕ → Result (Option (List ℕ)) Refusal → P → Type 0)
    → World P → Exchanged → Wire → P → Type 0
Visited {P} calls names old done wire pads =
    (w : World P) × Reaches calls names Next old Ended w × (w.relayed ≡ done.relayed)
    × (w.known ≡ done.known)
    × (w.wire ≡ wire)
    × (w.pads ≡ pads)

-- a round was made, with these results
abbrev pub Made : {P : Type 0} → (P → Request → Answer → P → Type 0) →
    (P → ℕ → Result (Option (List ℕ)) Refusal → P → Type 0) → ℕ → List ℕ
    → World P → Relayed → Wire → P → Type 0
Made {P} calls names own token old relayed wire pads =
    (w : World P) × Reaches calls names (Greeting own token) old Ended w × (w.relayed ≡ relayed)
    × (w.wire ≡ wire)
    × (w.pads ≡ pads)
