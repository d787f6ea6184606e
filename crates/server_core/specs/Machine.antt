-- The server machine, over any list of steps of any actors and new accounts.
use Rattle.std.specs.Prelude.{ℕ, ◌≤◌, nat_le, if◌then◌else◌, List, [], ◌∷◌, ◌++◌, length, slice_get, slice_set, Option}
use Rattle.std.specs.Prelude.{Some, None, Result, Ok, Err}
use Rattle.std.specs.List.{repeat}
use Rattle.pad_model.specs.declared.refusal.Refusal.{Refusal}
use Rattle.pad_model.specs.declared.refusal.Refusal.TheVariants.{ActorsFull}
use Rattle.sessions.specs.Accounts.{Accounts}
use Rattle.op_log.specs.Made.{nothing_made}
use Rattle.pad_core.specs.Machine.{Machine, nobody_present}
use Rattle.server_core.specs.Actor.{Actor, nobody}
use Rattle.server_core.specs.Steps.{actor_step}
use Rattle.server_core.specs.declared.limits.TheConstants.{MAX_CELLS, MAX_ACTORS}
use Rattle.server_core.specs.declared.step.Event.{Event}
use Rattle.server_core.specs.declared.step.Event.TheVariants as event
use Rattle.server_core.specs.declared.step.Moved.{Moved}
use Rattle.server_core.specs.declared.step.Moved.TheVariants.{Idle}
use Rattle.server_core.specs.declared.step.Step.{Step}

-- a server: its replica number, the accounts that may log in, its row of cells, and its actors
pub record Server : Type 0 where
  pub replica : ℕ
  pub accounts : Accounts
  pub cells : List Machine
  pub actors : List Actor

-- a cell without a name, on the server with a replica number, with a limit of visits that may be present at once
abbrev pub unnamed : ℕ → ℕ → Machine
unnamed replica present = record {
  owned = None;
  replica = replica;
  log = [];
  held = [];
  presence = nobody_present present;
  clock = 0;
  made = nothing_made;
}

-- a server with a row of cells without names, and without actors
abbrev pub new_server : ℕ → ℕ → ℕ → Accounts → Server
new_server replica present cells accounts = record {
  replica = replica;
  accounts = accounts;
  cells = repeat cells (unnamed replica present ∷ []);
  actors = [];
}

-- a row has at most as many cells as it may
abbrev pub IsRow : List Machine → Type 0
IsRow cells = length cells ≤ MAX_CELLS

-- one more actor, by its number
abbrev pub with_newcomer : Server → Result ℕ Refusal × Server
with_newcomer s =
    if nat_le MAX_ACTORS (length s.actors) then (Err ActorsFull, s)
    else (Ok (length s.actors), record s { actors = s.actors ++ nobody ∷ [] })

-- the result of an actor's step, and the server after it
abbrev pub with_actor : ℕ → Server → Moved × Actor × List Machine → Moved × Server
with_actor at s done = (done.0, record s { actors = slice_set s.actors at done.1; cells = done.2 })

-- one step of the server machine, by an actor that must have been opened
abbrev pub server_step : ℕ → Step → Server → Moved × Server
server_step at step s = by_actor (slice_get s.actors at)
  where
    by_actor : Option Actor → Moved × Server
    by_actor None = (Idle, s)
    by_actor (Some a) = with_actor at s (actor_step s.replica s.accounts step a s.cells)

-- the server with other accounts; its sessions go on
abbrev pub with_accounts : Accounts → Server → Server
with_accounts accounts s = record s { accounts = accounts }

-- one event: an actor's step, or new accounts, whose result is Idle
abbrev pub server_event : Event → Server → Moved × Server
server_event (event.Step at step) s = server_step at step s
server_event (event.Accounts accounts) s = (Idle, with_accounts accounts s)

-- the results of a list of events, and the server after them
abbrev pub run : List Event → Server → List Moved × Server
run [] s = ([], s)
run (first ∷ events) s =
    let done = server_event first s in
    (done.0 ∷ (run events done.1).0, (run events done.1).1)
