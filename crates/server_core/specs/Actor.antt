-- An actor: a session, and what it is doing.
use Rattle.std.specs.Prelude.{ℕ, Bool, true, false, List, [], Option, Some, None}
use Rattle.std.specs.List.{find}
use Rattle.std.specs.Option.{option_map_or}
use Rattle.pad_model.specs.declared.who.Who.{Who}
use Rattle.pad_model.specs.declared.who.Who.TheVariants.{Nobody}
use Rattle.sessions.specs.Session.{Session, is_of}
use Rattle.sessions.specs.declared.session.Room.{Room}
use Rattle.server_core.specs.declared.task.Task.{Task}
use Rattle.server_core.specs.declared.task.Task.TheVariants.{Resting, Scanning, Listing, Leaving}

-- who the session belongs to, the pads that it has joined in order of joining, and what it is doing
pub record Actor : Type 0 where
  pub who : Who
  pub rooms : List Room
  pub task : Task

-- an actor from its parts
abbrev pub actor_of : Session → Task → Actor
actor_of session task = record { who = session.who; rooms = session.rooms; task = task }

-- an unauthenticated actor, which has joined no pad and does nothing
abbrev pub nobody : Actor
nobody = record { who = Nobody; rooms = []; task = Resting }

-- whether a scan, a list or an end is under way
abbrev pub is_busy : Task → Bool
is_busy Resting = false
is_busy (Scanning request cell) = true
is_busy (Listing cell found) = true
is_busy Leaving = true

-- the actor, with nothing under way
abbrev pub rested : Actor → Actor
rested a = record a { task = Resting }

-- where the scan for a pad begins: at the pad's cell if the session has joined it, and otherwise at the first cell
abbrev pub first_cell : List ℕ → List Room → ℕ
first_cell pad rooms = option_map_or (λ room. room.cell) (find (is_of pad) rooms) 0

-- the visit that the session has on a pad
abbrev pub visit_on : List ℕ → List Room → Option ℕ
visit_on pad rooms = option_map_or (λ room. Some room.visit) (find (is_of pad) rooms) None
