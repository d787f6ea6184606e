-- What holds for a world of servers.
use Rattle.std.specs.Prelude.{◌≡◌, ◌≢◌, ◌↔◌, ℕ, ◌≤◌, Bool, List, ◌++◌, length, take, drop, map, Contains, Option, Some, Ok, Err}
use Rattle.std.specs.List.{IsDistinct, find}
use Rattle.pad_model.specs.Character.{Character}
use Rattle.pad_model.specs.Laws.{itself}
use Rattle.pad_model.specs.CellLaws.{IsLegal}
use Rattle.pad_model.specs.Log.{same_name}
use Rattle.pad_model.specs.Operation.{characters_in}
use Rattle.pad_model.specs.Order.{order}
use Rattle.pad_model.specs.Seen.{count_in}
use Rattle.pad_model.specs.Subsequence.{IsSubsequence}
use Rattle.pad_model.specs.Visible.{visible}
use Rattle.pad_model.specs.declared.op.Op.{Op}
use Rattle.pad_model.specs.declared.op.OpName.{OpName}
use Rattle.pad_model.specs.declared.refusal.Refusal.TheVariants.{BadOp, PeerFault}
use Rattle.pad_model.specs.declared.who.Who.{Who}
use Rattle.holdback.specs.Held.{is_ready}
use Rattle.pad_core.specs.Counts.{characters_at, vector_of}
use Rattle.pad_core.specs.Delivered.{delivery_refusal}
use Rattle.pad_core.specs.Exchange.{received, steps, unsettled}
use Rattle.pad_core.specs.Laws.{ShowSame}
use Rattle.pad_core.specs.Machine.{Machine, step}
use Rattle.pad_core.specs.declared.act.Act.TheVariants as act
use Rattle.pad_core.specs.declared.reply.PadReply.TheVariants as reply
use Rattle.federation_laws.specs.Past.{IsWithin, IsMadeBehind}
use Rattle.federation_laws.specs.World.{World}

-- a push of an operation is refused neither as breaking a limit nor as not fitting the pad, whoever pushes it
abbrev pub IsTaken : Machine → Op → Type 0
IsTaken m op =
    (pad : List ℕ) (who : Who) (visit : Option ℕ) →
    ((step pad who visit (act.Push op) m).0 ≢ Err BadOp)
    × ((step pad who visit (act.Push op) m).0 ≢ Err PeerFault)

-- no step of the release after its delivery drops an operation as not fitting the pad
abbrev pub DropsNoFault : Machine → Op → Type 0
DropsNoFault m op =
    (n : ℕ) (next : Op) →
    let d = steps n (unsettled (received m.replica op (m.log, m.held)).1) in
    find (is_ready (vector_of d.log)) d.held ≡ Some next
    → delivery_refusal next d.log ≢ Some PeerFault

-- whether two operations have the same name
abbrev pub have_one_name : Op → Op → Bool
have_one_name a b = same_name a.name b.name

-- a log has exactly those of the made operations that are up to its count of their origin, one for each number
pub record IsUpToCounts (made log : List Op) : Type 0 where
  pub within : IsWithin log made
  pub counts : (op : Op) → Contains made op
      → Contains log op ↔ (op.name.number ≤ count_in (vector_of log) op.name.origin)
  pub each : (name : OpName) → 1 ≤ name.number → name.number ≤ count_in (vector_of log) name.origin
      →
      (op : Op) × Contains log op × (op.name ≡ name)
  pub once : IsDistinct have_one_name log

-- at each revision, a log shows a part of the order of all characters
abbrev pub ShowsPart : List Op → List Op → Type 0
ShowsPart made log = (rev : ℕ) → IsSubsequence (visible (characters_at rev log))
    (order itself (characters_in made).inserted)

-- a text inserted at a position of the present revision is at that position in the next one, and the rest is unchanged
abbrev pub TypesInPlace : Machine → Type 0
TypesInPlace m =
    (pad : List ℕ) (who : Who) (visit : Option ℕ) (at : ℕ) (text : List ℕ) (now : ℕ) (name : OpName)
    (new : Machine) →
    step pad who visit (act.Insert (length m.log) at text) m ≡ (Ok (reply.Made now name), new) →
    let shown = visible (characters_in m.log) in
    (typed : List Character) × (at ≤ length shown) × (map (λ c. c.character) typed ≡ text)
    × (visible (characters_in new.log) ≡ take at shown ++ typed ++ drop at shown)

-- what holds for a world
pub record IsFederated (world : World) : Type 0 where
  -- no two operations have the same name
  pub named : IsDistinct have_one_name world.made
  -- each was valid where it was made, after the operations that its number and its vector name
  pub valid : (op : Op) → Contains world.made op
      → (past : List Op) × IsMadeBehind world.made past op
  -- no server refuses one as invalid
  pub taken : (server : ℕ) (op : Op) → Contains world.made op → IsTaken (world.machine_of server) op
  -- or drops one
  pub kept : (server : ℕ) (op : Op) → Contains world.made op
      → DropsNoFault (world.machine_of server) op
  -- each log has the operations that its counts say
  pub whole : (server : ℕ) → IsUpToCounts world.made (world.machine_of server).log
  -- equal counts mean equal pads
  pub alike : (one other : ℕ) → vector_of (world.machine_of one).log
      ≡ vector_of (world.machine_of other).log →
      ShowSame (world.machine_of one).log (world.machine_of other).log
  -- all characters together are a tree
  pub legal : IsLegal (characters_in world.made)
  -- and all servers show parts of that tree's order (the strong list specification)
  pub ordered : (server : ℕ) → ShowsPart world.made (world.machine_of server).log
  -- what is typed is where it was typed
  pub typed : (server : ℕ) → TypesInPlace (world.machine_of server)
