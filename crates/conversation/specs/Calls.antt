-- The outcome of an actor's call of the server machine.
use Rattle.std.specs.Prelude.{◌≡◌, ◌⊎◌, ℕ, zero, suc, true, List, Option, Some, slice_get, Result, Ok, Err}
use Rattle.pad_model.specs.declared.refusal.Refusal.{Refusal}
use Rattle.pad_core.specs.declared.reply.Reply.{Reply}
use Rattle.pad_core.specs.declared.request.Request.{Request}
use Rattle.server_core.specs.Actor.{Actor, is_busy}
use Rattle.server_core.specs.Machine.{Server}
use Rattle.server_core.specs.Served.{Served}
use Rattle.server_core.specs.Steps.{told}
use Rattle.server_core.specs.declared.step.Moved.{Moved}
use Rattle.server_core.specs.declared.step.Moved.TheVariants.{Scanning, Idle, Done, Named, Refused}
use Rattle.server_core.specs.declared.step.Step.{Step}
use Rattle.server_core.specs.declared.step.Step.TheVariants.{Ask, Move, Look, Relay, End}
use Rattle.server_core.specs.declared.task.Task.TheVariants.{Resting}

-- a server, and one of its actors
pub record Alone : Type 0 where
  pub server : Server
  pub actor : ℕ

-- the actor was opened, and has nothing under way
abbrev pub IsAtRest : Server → ℕ → Type 0
IsAtRest server actor = (a : Actor) × (slice_get server.actors actor ≡ Some a) × (a.task ≡ Resting)

-- a scan or the end of a session is under way for the actor
abbrev pub IsUnderWay : Server → ℕ → Type 0
IsUnderWay server actor = (a : Actor) × (slice_get server.actors actor ≡ Some a)
    × (is_busy a.task ≡ true)

-- a step that asks a request, makes the session that of a peer, or ends it
abbrev pub IsCall : Step → Type 0
IsCall (Ask request) = Unit {0}
IsCall (Relay number) = Unit {0}
IsCall End = Unit {0}
IsCall Move = ⊥
IsCall (Look cell) = ⊥

-- the outcome is a reply or a refusal
abbrev pub IsAnswer : Moved → Type 0
IsAnswer (Done reply) = Unit {0}
IsAnswer (Refused refusal) = Unit {0}
IsAnswer Scanning = ⊥
IsAnswer Idle = ⊥
IsAnswer (Named name) = ⊥

-- this many moves in a row, after each of which something is still under way
abbrev pub Scans : ℕ → ℕ → Server → Server → Type 0
Scans actor zero old new = new ≡ old
Scans actor (suc count) old new = (mid : Server) × Scans actor count old mid
    × Served mid actor Move Scanning new

-- some moves lead to an answer
abbrev pub Finishes : ℕ → Server → Moved → Server → Type 0
Finishes actor old answer new = (count : ℕ) × (mid : Server) × Scans actor count old mid
    × Served mid actor Move answer new × IsAnswer answer

-- a step leads to an answer, at once or by the moves that follow it
abbrev pub Made : Server → ℕ → Step → Moved → Server → Type 0
Made old actor step answer new =
    (Served old actor step answer new × IsAnswer answer)
    ⊎ ((mid : Server) × Served old actor step Scanning mid × Finishes actor mid answer new)

-- a request is answered by the steps of the actor
abbrev pub Asks : Alone → Request → Result Reply Refusal → Alone → Type 0
Asks old request answer new = Made old.server old.actor (Ask request) (told answer) new.server
    × (new.actor ≡ old.actor)

-- the session becomes that of a peer
abbrev pub Relays : Alone → ℕ → Result Reply Refusal → Alone → Type 0
Relays old number answer new = Made old.server old.actor (Relay number) (told answer) new.server
    × (new.actor ≡ old.actor)

-- the session is ended
abbrev pub Ends : Alone → Alone → Type 0
Ends old new = (answer : Moved) × Made old.server old.actor End answer new.server
    × (new.actor ≡ old.actor)

-- the outcome of a look: the name of a cell, or a refusal
abbrev pub named : Result (Option (List ℕ)) Refusal → Moved
named (Ok name) = Named name
named (Err refusal) = Refused refusal

-- a look at a cell returns the cell's name, or a refusal
abbrev pub Looks : Alone → ℕ → Result (Option (List ℕ)) Refusal → Alone → Type 0
Looks old cell answer new = Served old.server old.actor (Look cell) (named answer) new.server
    × (new.actor ≡ old.actor)

-- the outcome is that of a look: a name or a refusal
abbrev pub IsNamed : Moved → Type 0
IsNamed (Named name) = Unit {0}
IsNamed (Refused refusal) = Unit {0}
IsNamed Scanning = ⊥
IsNamed Idle = ⊥
IsNamed (Done reply) = ⊥
