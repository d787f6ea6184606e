-- What a request does at one cell.
use Rattle.std.specs.Prelude.{ℕ, not, List, [], ◌∷◌, ◌++◌, filter, slice_get, slice_set, Option, Some, None}
use Rattle.std.specs.Prelude.{Result, Ok, Err}
use Rattle.pad_model.specs.declared.refusal.Refusal.{Refusal}
use Rattle.pad_model.specs.declared.refusal.Refusal.TheVariants.{NoSession, NoPad, PadExists, NoSlot}
use Rattle.pad_model.specs.declared.who.Who.{Who}
use Rattle.pad_model.specs.declared.who.Who.TheVariants.{Nobody, Author, Peer}
use Rattle.sessions.specs.Session.{is_of}
use Rattle.sessions.specs.declared.session.Room.{Room}
use Rattle.pad_core.specs.Machine.{Machine, now_of, step, claim}
use Rattle.pad_core.specs.declared.act.Act.{Act}
use Rattle.pad_core.specs.declared.act.Act.TheVariants as act
use Rattle.pad_core.specs.declared.event.Claim.{Claim}
use Rattle.pad_core.specs.declared.event.Claim.TheVariants.{Created, Exists, Other}
use Rattle.pad_core.specs.declared.reply.PadReply.{PadReply}
use Rattle.pad_core.specs.declared.reply.PadReply.TheVariants as pad
use Rattle.pad_core.specs.declared.reply.Reply.{Reply}
use Rattle.pad_core.specs.declared.reply.Reply.TheVariants as reply
use Rattle.pad_core.specs.declared.request.Request.{Request}
use Rattle.pad_core.specs.declared.request.Request.TheVariants.{Hello, Peer as PeerRequest, Create, Pads, People, On}
use Rattle.server_core.specs.Actor.{visit_on}

-- what a cell answers, or nothing if the request goes on to the next one; and the session's rooms and the cell
-- afterwards
abbrev pub CellAnswer : Type 0
CellAnswer = Result (Option Reply) Refusal × List Room × Machine

-- a pad's answer as the server's: nothing if the pad has another name
abbrev pub passed_on : Result PadReply Refusal → Result (Option Reply) Refusal
passed_on (Ok pad.Elsewhere) = Ok None
passed_on (Ok answer) = Ok (Some (reply.Pad answer))
passed_on (Err refusal) = Err refusal

-- the rooms after an act on a pad in a cell: one more if the session has joined, one less if it has left
abbrev pub rooms_after : List ℕ → ℕ → Act → Result PadReply Refusal → List Room → List Room
rooms_after name cell act.Join (Ok (pad.Joined now visit)) rooms =
    rooms ++ record { pad = name; cell = cell; visit = visit } ∷ []
rooms_after name cell (act.Rejoin old) (Ok (pad.Rejoined now visit made last)) rooms =
    rooms ++ record { pad = name; cell = cell; visit = visit } ∷ []
rooms_after name cell act.Leave (Ok (pad.Done now)) rooms = filter (λ room. not (is_of name room))
    rooms
rooms_after name cell other answer rooms = rooms

-- an act on the pad with a name, at a cell
abbrev pub act_at : Who → List ℕ → Act → ℕ → List Room → Machine → CellAnswer
act_at who name act cell rooms m =
    let done = step name who (visit_on name rooms) act m in
    (passed_on done.0, rooms_after name cell act done.0 rooms, done.1)

-- the outcome of a claim, as the server's answer
abbrev pub created : List ℕ → ℕ → List Room → Result Claim Refusal × Machine → CellAnswer
created name cell rooms (Ok (Created visit), m) = (
  Ok (Some (reply.Pad (pad.Joined (now_of m) visit))),
  rooms ++ record { pad = name; cell = cell; visit = visit } ∷ [],
  m,
)
created name cell rooms (Ok Exists, m) = (Err PadExists, rooms, m)
created name cell rooms (Ok Other, m) = (Ok None, rooms, m)
created name cell rooms (Err refusal, m) = (Err refusal, rooms, m)

-- the creation of a pad, at a cell
abbrev pub create_at : Who → List ℕ → ℕ → List Room → Machine → CellAnswer
create_at (Author owner) name cell rooms m = created name cell rooms (claim name owner m)
create_at Nobody name cell rooms m = (Err NoSession, rooms, m)
create_at (Peer number version) name cell rooms m = (Err NoSession, rooms, m)

-- a request at a cell; requests on the session itself visit none
abbrev pub request_at : Who → Request → ℕ → List Room → Machine → CellAnswer
request_at who (On name act) cell rooms m = act_at who name act cell rooms m
request_at who (Create name) cell rooms m = create_at who name cell rooms m
request_at who Pads cell rooms m = (Err NoSession, rooms, m)
request_at who (People authors) cell rooms m = (Err NoSession, rooms, m)
request_at who (Hello name token) cell rooms m = (Err NoSession, rooms, m)
request_at who (PeerRequest number token version) cell rooms m = (Err NoSession, rooms, m)

-- the refusal of a request that finds no cell
abbrev pub past_row : Request → Refusal
past_row (Create name) = NoSlot
past_row other = NoPad

-- the same for a row of cells
abbrev pub RowAnswer : Type 0
RowAnswer = Result (Option Reply) Refusal × List Room × List Machine

-- a request at an index of the row; past the row it ends
abbrev pub row_answer : Who → Request → ℕ → List Room → List Machine → RowAnswer
row_answer who request cell rooms cells = at_cell (slice_get cells cell)
  where
    at_cell : Option Machine → RowAnswer
    at_cell None = (Err (past_row request), rooms, cells)
    at_cell (Some m) =
        let done = request_at who request cell rooms m in
        (done.0, done.1, slice_set cells cell done.2)
