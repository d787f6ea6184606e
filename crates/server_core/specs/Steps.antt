-- The server machine: one actor's step goes in, its result and the next state come out.
use Rattle.std.specs.Prelude.{ℕ, ◌+◌, Bool, false, nat_lt, if◌then◌else◌, List, [], ◌∷◌, length, slice_get, slice_set}
use Rattle.std.specs.Prelude.{Option, Some, None, Result, Ok, Err}
use Rattle.pad_model.specs.declared.refusal.Refusal.{Refusal}
use Rattle.pad_model.specs.declared.refusal.Refusal.TheVariants.{Busy}
use Rattle.pad_model.specs.declared.who.Who.{Who}
use Rattle.pad_model.specs.declared.who.Who.TheVariants.{Nobody}
use Rattle.sessions.specs.Accounts.{Accounts}
use Rattle.sessions.specs.declared.session.Room.{Room}
use Rattle.pad_core.specs.Machine.{Machine, name_of, step}
use Rattle.pad_core.specs.declared.act.Act.TheVariants as act
use Rattle.pad_core.specs.declared.reply.Reply.{Reply}
use Rattle.pad_core.specs.declared.reply.Reply.TheVariants.{Ended}
use Rattle.pad_core.specs.declared.request.Request.{Request}
use Rattle.pad_core.specs.declared.request.Request.TheVariants as request
use Rattle.server_core.specs.Actor.{Actor, first_cell, is_busy}
use Rattle.server_core.specs.AtCell.{RowAnswer, row_answer, past_row}
use Rattle.server_core.specs.Listing.{list_on}
use Rattle.server_core.specs.Opening.{hello, peer, people, relay, create_refusal, pads_refusal, act_refusal}
use Rattle.server_core.specs.declared.step.Moved.{Moved}
use Rattle.server_core.specs.declared.step.Moved.TheVariants as moved
use Rattle.server_core.specs.declared.step.Step.{Step}
use Rattle.server_core.specs.declared.step.Step.TheVariants as step
use Rattle.server_core.specs.declared.task.Task.{Task}
use Rattle.server_core.specs.declared.task.Task.TheVariants.{Resting, Scanning, Listing, Leaving}

-- an answer as a result of a step
abbrev pub told : Result Reply Refusal → Moved
told (Ok answer) = moved.Done answer
told (Err refusal) = moved.Refused refusal

-- a request on the session itself is answered at once
abbrev pub opened : Actor → Result Reply Refusal × Who → Moved × Actor
opened a done = (told done.0, record a { who = done.1 })

-- a scan begins unless there is a reason to refuse the request
abbrev pub begun : Request → ℕ → Actor → Option Refusal → Moved × Actor
begun request cell a (Some refusal) = (moved.Refused refusal, a)
begun request cell a None = (moved.Scanning, record a { task = Scanning request cell })

-- a list of pads begins at the first cell, unless there is a reason to refuse it
abbrev pub list_begun : Actor → Option Refusal → Moved × Actor
list_begun a (Some refusal) = (moved.Refused refusal, a)
list_begun a None = (moved.Scanning, record a { task = Listing 0 [] })

-- the result of asking a request, and the actor after it
abbrev pub ask : ℕ → Accounts → Request → Actor → Moved × Actor
ask replica accounts (request.Hello name token) a = opened a
    (hello replica accounts name token a.who)
ask replica accounts (request.Peer number token version) a = opened a
    (peer replica accounts number token version a.who)
ask replica accounts (request.Create name) a = begun (request.Create name) (first_cell name a.rooms)
    a
    (create_refusal a.who name)
ask replica accounts request.Pads a = list_begun a (pads_refusal a.who)
ask replica accounts (request.People authors) a = opened a (people accounts authors a.who)
ask replica accounts (request.On name act) a = begun (request.On name act) (first_cell name a.rooms)
    a
    (act_refusal a.who name act)

-- whether a scan goes on: the cell had another name, and another cell follows it
abbrev pub goes_on : Result (Option Reply) Refusal → ℕ → ℕ → Bool
goes_on (Ok None) cell count = nat_lt (cell + 1) count
goes_on (Ok (Some answer)) cell count = false
goes_on (Err refusal) cell count = false

-- the result of a scan: the answer of its cell, or that of a request that found none
abbrev pub concluded : Request → Result (Option Reply) Refusal → Moved
concluded request (Ok None) = moved.Refused (past_row request)
concluded request (Ok (Some answer)) = moved.Done answer
concluded request (Err refusal) = moved.Refused refusal

-- a scan after the answer of a cell
abbrev pub scanned : Request → ℕ → Actor → RowAnswer → Moved × Actor × List Machine
scanned request cell a done =
    if goes_on done.0 cell (length done.2)
    then (moved.Scanning, record a { rooms = done.1; task = Scanning request (cell + 1) }, done.2)
    else (concluded request done.0, record a { rooms = done.1; task = Resting }, done.2)

-- a scan advances by one cell
abbrev pub scan : Request → ℕ → Actor → List Machine → Moved × Actor × List Machine
scan request cell a cells = scanned request cell a (row_answer a.who request cell a.rooms cells)

-- the cells after a session has left a room
abbrev pub left_room : Who → Room → List Machine → List Machine
left_room who room cells = at_cell (slice_get cells room.cell)
  where
    at_cell : Option Machine → List Machine
    at_cell None = cells
    at_cell (Some m) = slice_set cells room.cell (step room.pad who (Some room.visit) act.Leave m).1

-- the end of a session that has these rooms left to leave
abbrev pub ended : Actor → List Room → Moved × Actor
ended a [] = (moved.Done Ended, record { who = Nobody; rooms = []; task = Resting })
ended a (room ∷ rooms) = (moved.Scanning, record a { rooms = room ∷ rooms; task = Leaving })

-- an end advances by leaving the room that was joined first
abbrev pub leave_first : Actor → List Room → List Machine → Moved × Actor × List Machine
leave_first a [] cells = let next = ended a [] in (next.0, next.1, cells)
leave_first a (room ∷ rooms) cells = let next = ended a rooms
    in (next.0, next.1, left_room a.who room cells)

-- what is under way advances by one cell
abbrev pub move : Task → Actor → List Machine → Moved × Actor × List Machine
move Resting a cells = (moved.Idle, a, cells)
move (Scanning request cell) a cells = scan request cell a cells
move (Listing cell found) a cells = list_on cell found a cells
move Leaving a cells = leave_first a a.rooms cells

-- the end of a session begins: a scan is dropped, an end that is under way continues
abbrev pub end : Task → Actor → Moved × Actor
end Leaving a = (moved.Scanning, a)
end other a = ended a a.rooms

-- the name of a cell, if it is in the row and has one
abbrev pub name_at : ℕ → List Machine → Option (List ℕ)
name_at cell cells = at_cell (slice_get cells cell)
  where
    at_cell : Option Machine → Option (List ℕ)
    at_cell None = None
    at_cell (Some m) = name_of m.owned

-- a step that changes only the actor
abbrev pub alone : List Machine → Moved × Actor → Moved × Actor × List Machine
alone cells done = (done.0, done.1, cells)

-- a step that is refused while something is under way
abbrev pub unless_busy : Actor → Moved × Actor → Moved × Actor
unless_busy a done = if is_busy a.task then (moved.Refused Busy, a) else done

-- one step of an actor: its result, and the actor and the cells after it
abbrev pub actor_step : ℕ → Accounts → Step → Actor → List Machine → Moved × Actor × List Machine
actor_step replica accounts (step.Ask request) a cells = alone cells
    (unless_busy a (ask replica accounts request a))
actor_step replica accounts step.Move a cells = move a.task a cells
actor_step replica accounts (step.Look cell) a cells = alone cells
    (unless_busy a (moved.Named (name_at cell cells), a))
actor_step replica accounts (step.Relay number) a cells =
    alone cells (unless_busy a (opened a (relay replica number a.who)))
actor_step replica accounts step.End a cells = alone cells (end a.task a)
