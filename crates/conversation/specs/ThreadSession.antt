-- How the session of a thread uses its seats.
use Rattle.std.specs.Prelude.{◌≡◌, ◌<◌, ◌⊎◌, ℕ, zero, suc, List, [], ◌∷◌, Some, Vec}
use Rattle.std.specs.Prelude.{slice_get, slice_set, slice_index_or}
use Rattle.std.specs.declared.alloc.Global.{Global}
use Rattle.pad_model.specs.declared.who.Who.{Who}
use Rattle.pad_model.specs.declared.who.Who.TheVariants.{Nobody}
use Rattle.sessions.specs.declared.session.Room.{Room}
use Rattle.pad_core.specs.declared.request.Request.{Request}
use Rattle.sessions.specs.Session.{Session}
use Rattle.shared_pads.specs.LockedPad.{Departs}
use Rattle.shared_pads.specs.declared.seat.Seat.{Seat}
use Rattle.conversation.specs.PadTable.{HasNoSeat, RowAsked}
use Rattle.conversation.specs.Seating.{cells_in}
use Rattle.conversation.specs.Session.{Answer, Serves}
use Rattle.conversation.specs.declared.pad_table.PadTable.{PadTable}
use Rattle.conversation.specs.declared.shared.Shared.{Shared}

-- a session of this author left the pad of a room, by the thread's seat at the room's cell; or the thread has no seat
-- there, and its seats are unchanged
abbrev pub LeavesRoom : List ℕ → Who → Room → List Seat → List Seat → Type 0
LeavesRoom cells who room old new =
    ((seat after : Seat) × (slice_get old room.cell ≡ Some seat)
    × (slice_get cells room.cell ≡ Some seat.cell)
    × Departs seat who room after × (new ≡ slice_set old room.cell after))
    ⊎ (HasNoSeat cells room.cell old × (new ≡ old))

-- the pads of all rooms were left, one after another
abbrev pub LeavesRooms : List ℕ → Who → List Room → List Seat → List Seat → Type 0
LeavesRooms cells who [] old new = new ≡ old
LeavesRooms cells who (room ∷ rooms) old new = (mid : List Seat) × LeavesRoom cells who room old mid
    × LeavesRooms cells who rooms mid new

module _ {S R G : Type 0} where
  -- a request of a thread's session, made with the thread's seats, is answered by the row, which does not change
  abbrev pub CallsRow : Shared S R G → Request → Answer → Shared S R G → Type 0
  CallsRow old request answer new =
      (new.row ≡ old.row)
      × RowAsked old.row.now.replica old.row.now.accounts.now (cells_in old.row.now.cells.now)
      old.session.who
      (record { rooms = old.session.rooms; seats = old.seats.items })
      request answer new.session.who (record { rooms = new.session.rooms; seats = new.seats.items })

  -- the end of a thread's session: it leaves its rooms as the author it was, and is unauthenticated afterwards
  abbrev pub EndsRow : Shared S R G → Shared S R G → Type 0
  EndsRow old new =
      (new.row ≡ old.row) × (new.session.who ≡ Nobody) × (new.session.rooms ≡ [])
      × LeavesRooms (cells_in old.row.now.cells.now) old.session.who old.session.rooms
      old.seats.items new.seats.items

  -- a thread's row and seats, with another session in place of its own
  abbrev pub lent : Shared S R G → Session → Shared S R G
  lent shared session = record { row = shared.row; seats = shared.seats; session = session }

  -- a thread's seats served another session: the thread's row and its own session are unchanged
  abbrev pub KeepsSession : Shared S R G → Shared S R G → Type 0
  KeepsSession old new = (new.row ≡ old.row) × (new.session ≡ old.session)

  -- others used the seats, or the accounts were replaced: the session is unchanged
  abbrev pub IsApart : Shared S R G → Shared S R G → Type 0
  IsApart old new = new.session ≡ old.session
