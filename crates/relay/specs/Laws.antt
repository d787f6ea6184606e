-- The statements of the laws of rounds, over any pads.
use Rattle.std.specs.Prelude.{◌≡◌, ◌+◌, ◌*◌, ◌<◌, ℕ, length, true, List, [], ◌∷◌, Option, None, Some, Result, Ok}
use Rattle.std.specs.List.{range_with_len}
use Rattle.pad_model.specs.OldWire.{op_in_v1, seen_in_v1}
use Rattle.pad_model.specs.declared.limits.TheConstants.{MAX_OPERATIONS}
use Rattle.pad_model.specs.declared.op.Op.{Op}
use Rattle.pad_model.specs.declared.refusal.Refusal.{Refusal}
use Rattle.pad_model.specs.declared.seen.Counted.{Counted}
use Rattle.pad_model.specs.declared.who.Version.{Version}
use Rattle.pad_core.specs.declared.act.Act.TheVariants as act
use Rattle.pad_core.specs.declared.exchange.TheConstants.{MAX_BATCH}
use Rattle.pad_core.specs.declared.reply.Pushed.TheVariants as pushed
use Rattle.pad_core.specs.declared.request.Request.{Request}
use Rattle.wire_json.specs.Peers.{pull_answer, pull_request, push_answer, push_request, vector_answer, vector_request}
use Rattle.wire_json.specs.declared.peer_answer.Told.TheVariants.{Said}
use Rattle.wire_lines.specs.declared.fault.Fault.{Fault}
use Rattle.conversation.specs.Session.{Answer}
use Rattle.relay.specs.Breaks.{Breaks}
use Rattle.relay.specs.Counts.{with_pull, with_pulled, with_pushed}
use Rattle.relay.specs.Kept.{begun, ready, Greets, MissesGreeting}
use Rattle.relay.specs.Listed.{by_place, count_of}
use Rattle.relay.specs.Round.{Asks, Heard, Reaches, Sends, Stage, World, counted, is_readable, known_at, noted, own_count}
use Rattle.relay.specs.Round.{own_ops, own_vector, with_op}
use Rattle.relay.specs.Round.Stage.{Greeting, Next, Over, Pulling, Pushing}
use Rattle.relay.specs.Wire.{Wire}
use Rattle.relay.specs.declared.limits.TheConstants.{MAX_OPS}

-- the list of all cells, in their order
abbrev pub all_of : ℕ → List ℕ
all_of cells = range_with_len 0 cells

module _ {P : Type 0} (calls : P → Request → Answer → P → Type 0)
    (names : P → ℕ → Result (Option (List ℕ)) Refusal →
    P → Type 0) where
  -- a greeting that was answered leads from the first stage to the first cell
  abbrev pub GreetedLaw : Type 0
  GreetedLaw = (own : ℕ) (token : List ℕ) (version : Version) (cells : ℕ) (pads : P)
      (old new : Wire)
      → Greets own token version old new
      → Reaches calls names (Greeting own token) (begun cells pads old) Next
      (ready version cells [] pads new)

  -- a greeting that failed is a round that broke off
  abbrev pub MissedLaw : Type 0
  MissedLaw = (own : ℕ) (token : List ℕ) (fault : Fault) (cells : ℕ) (pads : P) (old new : Wire)
      → MissesGreeting own token fault old new
      → Breaks calls names fault (Greeting own token) (begun cells pads old) pads new

  -- a round over the list of all cells makes the same steps as one over the cells themselves, and all cells count
  abbrev pub AllCellsLaw : Type 0
  AllCellsLaw = (first : Stage) (old : World P) (last : Stage) (new : World P)
      → (Reaches calls (by_place (all_of old.cells) names) first old last new
      → Reaches calls names first old last new)
      × (Reaches calls names first old last new
      → Reaches calls (by_place (all_of old.cells) names) first old last new)
      × (old.cells < 4294967296 → count_of (all_of old.cells) ≡ old.cells)

  -- a peer has one operation of a pad more, and this pad delivers it: a turn of pulling delivers it here, and another turn
  -- follows. There is such a turn as long as the turns so far may have brought less than a pad can have, four at a time
  abbrev pub PulledLaw : Type 0
  PulledLaw = (name : List ℕ) (turn count : ℕ) (vector made : Answer) (seen : List Counted) (op : Op)
      (old told sent heard new : World P)
      → turn * MAX_OPS < MAX_OPERATIONS
      → Asks calls names name act.Vector vector old told → own_vector vector ≡ Ok (Some seen)
      → is_readable told.version (seen_in_v1 seen) ≡ true
      → Sends (pull_request name seen MAX_OPS (Some MAX_BATCH)) told sent
      → Heard pull_answer (Some (Said (op ∷ []))) sent heard
      → Asks calls names name (act.Push op) made (counted (with_pull turn) heard) new
      → own_count made ≡ Ok (Some count) → 0 < count
      → Reaches calls names (Pulling name turn) old (Pulling name (turn + 1))
      (counted (with_pulled count) new)

  -- a pad has one operation that a peer lacks, and the peer delivers it: a turn of pushing delivers it there, after which
  -- the peer is known to have it, and another turn follows. There is such a turn as long as the turns so far may have
  -- brought less than a pad can have, a batch at a time
  abbrev pub PushedLaw : Type 0
  PushedLaw = (name : List ℕ) (turn : ℕ) (lacking : Answer) (seen : List Counted) (op : Op)
      (old asked told given sent heard : World P)
      → turn * MAX_BATCH < MAX_OPERATIONS → known_at old.known old.cell ≡ None
      → Sends (vector_request name) old asked
      → Heard vector_answer (Some (Said seen)) asked told
      → Asks calls names name (act.Pull seen MAX_OPS (Some MAX_BATCH)) lacking told given
      → own_ops lacking ≡ Ok (Some (op ∷ []))
      → is_readable given.version (op_in_v1 op) ≡ true
      → Sends (push_request name op) given sent
      → Heard push_answer (Some (Said pushed.Delivered)) sent heard
      → Reaches calls names (Pushing name turn) old (Pushing name (turn + 1))
      (noted (Some (with_op op seen)) (counted with_pushed heard))

  -- it is known what a peer has of a pad, which has one operation more: the peer is sent this one, and nothing else, and is
  -- known to have it once it has delivered it
  abbrev pub OneRequestLaw : Type 0
  OneRequestLaw = (name : List ℕ) (lacking nothing : Answer) (seen : List Counted) (op : Op)
      (old given sent heard new : World P)
      → known_at old.known old.cell ≡ Some seen → old.cell < length old.known
      → Asks calls names name (act.Pull seen MAX_OPS (Some MAX_BATCH)) lacking (noted None old) given
      → own_ops lacking ≡ Ok (Some (op ∷ []))
      → is_readable given.version (op_in_v1 op) ≡ true
      → Sends (push_request name op) given sent
      → Heard push_answer (Some (Said pushed.Delivered)) sent heard
      → Asks calls names name (act.Pull (with_op op seen) MAX_OPS (Some MAX_BATCH)) nothing
      (noted None (noted (Some (with_op op seen)) (counted with_pushed heard))) new
      → own_ops nothing ≡ Ok (Some [])
      → Reaches calls names (Pushing name 0) old Over (noted (Some (with_op op seen)) new)
