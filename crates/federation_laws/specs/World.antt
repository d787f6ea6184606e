-- The servers of one pad, and the events among them.
use Rattle.std.specs.Prelude.{◌≡◌, ◌≢◌, ℕ, ◌≤◌, List, [], ◌∷◌, ◌++◌, length, drop, Contains, Result}
use Rattle.pad_model.specs.declared.op.Op.{Op}
use Rattle.pad_model.specs.declared.refusal.Refusal.{Refusal}
use Rattle.sessions.specs.Session.{IsNamed}
use Rattle.pad_core.specs.Machine.{Machine}
use Rattle.pad_core.specs.Ran.{Stepped}
use Rattle.pad_core.specs.declared.act.Act.{Act}
use Rattle.pad_core.specs.declared.act.Act.TheVariants as act
use Rattle.pad_core.specs.declared.event.PadEvent.{PadEvent}
use Rattle.pad_core.specs.declared.reply.PadReply.{PadReply}

-- the pad machine of each server, by its replica number; and all operations that they have made, oldest first
pub record World : Type 0 where
  pub machine_of : ℕ → Machine
  pub made : List Op

-- a pad at its beginning, on the server with this number: nothing was delivered and nothing is held, whoever owns it
pub record IsFresh (server : ℕ) (m : Machine) : Type 0 where
  pub replica : m.replica ≡ server
  pub log : m.log ≡ []
  pub held : m.held ≡ []

-- the world at its beginning: no operation was made
pub record Begins (world : World) : Type 0 where
  pub fresh : (server : ℕ) → IsFresh server (world.machine_of server)
  pub made : world.made ≡ []

-- what is pushed is an operation that some server made, at any time and any number of times
abbrev pub IsHonest : Act → List Op → Type 0
IsHonest (act.Push op) made = Contains made op
IsHonest other made = Unit {0}

-- anyone may ask anything of a server, if an author has a well-formed name and what is pushed is honest
pub record MayHappen (world : World) (server : ℕ) (event : PadEvent) : Type 0 where
  pub number : 1 ≤ server
  pub named : IsNamed event.who.now
  pub honest : IsHonest event.act.now world.made

-- the operations that an act made: those that it added to the log, unless it was a push
abbrev pub made_by : Act → List Op → List Op → List Op
made_by (act.Push op) old new = []
made_by other old new = drop (length old) new

-- a pad with the same operations: it may have been claimed, joined or left since
pub record HasSameOperations (old here : Machine) : Type 0 where
  pub replica : here.replica ≡ old.replica
  pub log : here.log ≡ old.log
  pub held : here.held ≡ old.held

-- an event on a server: its machine changes as the pad that runs it does, even if memory runs out, and no other machine
-- changes
pub record Happens (server : ℕ) (event : PadEvent) (old new : World) : Type 0 where
  pub may : MayHappen old server event
  pub here : Machine
  pub same : HasSameOperations (old.machine_of server) here
  pub reply : Result PadReply Refusal
  pub steps : Stepped here event reply (new.machine_of server)
  pub others : (other : ℕ) → other ≢ server → new.machine_of other ≡ old.machine_of other
  pub made : new.made ≡ old.made ++ made_by event.act.now here.log (new.machine_of server).log

-- successive events lead from one world to another
abbrev pub Leads : World → List (ℕ × PadEvent) → World → Type 0
Leads old [] new = new ≡ old
Leads old ((server, event) ∷ events) new = (next : World) × Happens server event old next
    × Leads next events new
