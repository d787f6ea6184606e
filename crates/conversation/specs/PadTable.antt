-- The requests of a session to a row of shared pads.
use Rattle.std.specs.Prelude.{◌≡◌, ◌⊎◌, ℕ, zero, suc, ◌+◌, ◌≤◌, true, List, slice_get, slice_set, Option, None, Some}
use Rattle.std.specs.Prelude.{length, Result, Ok, Err}
use Rattle.std.specs.List.{AllByRecursion, find}
use Rattle.std.specs.Option.{option_map}
use Rattle.pad_model.specs.Answers.{Answers}
use Rattle.pad_model.specs.declared.refusal.Refusal.{Refusal}
use Rattle.pad_model.specs.declared.refusal.Refusal.TheVariants.{Memory, SeatsOut, StoreFull}
use Rattle.pad_model.specs.declared.who.Who.{Who}
use Rattle.sessions.specs.Accounts.{Accounts}
use Rattle.sessions.specs.Session.{is_of}
use Rattle.sessions.specs.declared.session.Room.{Room}
use Rattle.pad_core.specs.Listing.{pads_of}
use Rattle.pad_core.specs.Machine.{Machine}
use Rattle.pad_core.specs.declared.reply.Reply.{Reply}
use Rattle.pad_core.specs.declared.reply.Reply.TheVariants.{Pads}
use Rattle.pad_core.specs.declared.request.Request.{Request}
use Rattle.pad_core.specs.declared.request.Request.TheVariants as request
use Rattle.server_core.specs.AtCell.{past_row}
use Rattle.server_core.specs.Opening.{act_refusal, create_refusal, hello, pads_refusal, peer, people}
use Rattle.store_records.specs.Leaves.{may_leave}
use Rattle.shared_pads.specs.Gates.{IsLet}
use Rattle.shared_pads.specs.LockedPad.{Called, CanBe}
use Rattle.shared_pads.specs.declared.seat.Seat.{Seat}
use Rattle.conversation.specs.Names.{Starts}

-- a session's pads, and a seat at each cell of the row
pub record Seated : Type 0 where
  pub rooms : List Room
  pub seats : List Seat

-- there is no seat of a cell, which has this place among the cells
abbrev pub HasNoSeat : List ℕ → ℕ → List Seat → Type 0
HasNoSeat cells place seats = (seat : Seat) → slice_get seats place ≡ Some seat
    → slice_get cells place ≡ Some seat.cell → ⊥

-- one call by the seat at a cell; if there is no seat of that cell, it is refused as by a seat that the pad does not
-- know
abbrev pub VisitsAt : List ℕ → Who → Request → ℕ → Seated → Result (Option Reply) Refusal → Seated
    → Type 0
VisitsAt cells who request cell old answer new =
    ((answer ≡ Err SeatsOut) × (new ≡ old) × HasNoSeat cells cell old.seats)
    ⊎ ((seat : Seat) × (after : Seat) × (slice_get old.seats cell ≡ Some seat)
    × Called seat who request old.rooms answer after new.rooms
    × (new.seats ≡ slice_set old.seats cell after))

-- this many cells, from this one on, were visited, and their pads have other names
abbrev pub Passes : List ℕ → Who → Request → ℕ → ℕ → Seated → Seated → Type 0
Passes cells who request cell zero old new = new ≡ old
Passes cells who request cell (suc count) old new =
    (mid : Seated) × Passes cells who request cell count old mid
    × VisitsAt cells who request (cell + count) mid (Ok None) new

-- the answer to a session, as its cell gives it
abbrev pub of_cell : Result Reply Refusal → Result (Option Reply) Refusal
of_cell (Ok reply) = Ok (Some reply)
of_cell (Err refusal) = Err refusal

-- a scan from a cell: the pads of some cells have other names, and the next cell answers; or the row ends
abbrev pub Scans : List ℕ → ℕ → Who → Request → Seated → Result Reply Refusal → Seated → Type 0
Scans cells cell who request old answer new =
    (count : ℕ) × (mid : Seated) × Passes cells who request cell count old mid
    × (VisitsAt cells who request (cell + count) mid (of_cell answer) new
    ⊎ ((length cells ≤ cell + count) × (answer ≡ Err (past_row request)) × (new ≡ mid)))

-- the cell of a pad, if the session has joined it
abbrev pub room_cell : List ℕ → List Room → Option ℕ
room_cell name rooms = option_map (λ room. room.cell) (find (is_of name) rooms)

-- a scan from the given cell; if none is given, there is no such pad
abbrev pub ScansFrom : Option ℕ → List ℕ → Who → Request → Seated → Result Reply Refusal → Seated
    → Type 0
ScansFrom (Some start) cells who request old answer new = Scans cells start who request old answer new
ScansFrom None cells who request old answer new = (answer ≡ Err (past_row request)) × (new ≡ old)

-- a scan from the cell that the names of the first cells give. Each cell that is skipped has another name, and a pad
-- keeps its name, so a scan of all cells would pass over it too
abbrev pub Finds : List ℕ → List ℕ → Who → Request → Seated → Result Reply Refusal → Seated → Type 0
Finds cells name who request old answer new =
    (start : Option ℕ) × Starts name request start × ScansFrom start cells who request old answer new

-- a scan from the cell of the session's room, if it has joined the pad, or else from the cell that the names give
abbrev pub Goes : Option ℕ → List ℕ → List ℕ → Who → Request → Seated → Result Reply Refusal → Seated
    → Type 0
Goes (Some cell) cells name who request old answer new = Scans cells cell who request old answer new
Goes None cells name who request old answer new = Finds cells name who request old answer new

-- a request that may leave records is refused because they cannot be kept or there is no memory to find out; or the
-- request, which the gate let pass if it may leave some, is scanned
abbrev pub Seeks : List ℕ → List ℕ → Who → Request → Seated → Result Reply Refusal → Seated → Type 0
Seeks cells name who request old answer new =
    ((may_leave request ≡ true) × ((answer ≡ Err StoreFull) ⊎ (answer ≡ Err Memory)) × (new ≡ old))
    ⊎ ((may_leave request ≡ true → IsLet request)
    × Goes (room_cell name old.rooms) cells name who request old answer new)

-- a request on the pad of this name: the refusal, if there is one, and otherwise a scan
abbrev pub Searches : Option Refusal → List ℕ → List ℕ → Who → Request → Seated → Result Reply Refusal
    → Seated → Type 0
Searches (Some refusal) cells name who request old answer new = (answer ≡ Err refusal) × (new ≡ old)
Searches None cells name who request old answer new = Seeks cells name who request old answer new

-- a list of the pads that this client may read: what each pad of the row shows, in some state that it can have, in the
-- order of the cells
abbrev pub ListsRow : ℕ → Who → Result Reply Refusal → Type 0
ListsRow row who answer =
    (answer ≡ Err Memory)
    ⊎ ((ms : List Machine) × (length ms ≡ row) × AllByRecursion CanBe ms
    × (answer ≡ Ok (Pads (pads_of who ms))))

-- the refusal of a list, if there is one, and otherwise the list
abbrev pub Lists : Option Refusal → ℕ → Who → Result Reply Refusal → Type 0
Lists (Some refusal) row who answer = answer ≡ Err refusal
Lists None row who answer = ListsRow row who answer

-- the answer to a session by a row of these cells: requests about the session itself are answered as by the server
-- machine, the others by a scan or with 901
abbrev pub RowAsked : ℕ → Accounts → List ℕ → Who → Seated → Request → Result Reply Refusal → Who
    → Seated → Type 0
RowAsked replica accounts cells who old (request.Hello name token) answer then new =
    Answers who (hello replica accounts name token who) answer then × (new ≡ old)
RowAsked replica accounts cells who old (request.Peer number token version) answer then new =
    (peer replica accounts number token version who ≡ (answer, then)) × (new ≡ old)
RowAsked replica accounts cells who old (request.Create name) answer then new =
    Searches (create_refusal who name) cells name who (request.Create name) old answer new
    × (then ≡ who)
RowAsked replica accounts cells who old request.Pads answer then new =
    Lists (pads_refusal who) (length cells) who answer × (new ≡ old) × (then ≡ who)
RowAsked replica accounts cells who old (request.People authors) answer then new =
    Answers who (people accounts authors who) answer then × (new ≡ old)
RowAsked replica accounts cells who old (request.On name act) answer then new =
    Searches (act_refusal who name act) cells name who (request.On name act) old answer new
    × (then ≡ who)
