-- The loop of `leave_all`: leaving the rooms that are left leaves all of them, and the loop ends.
use Rattle.std.proofs.Common.{◌≡◌, List, length}
use Rattle.shared_pads.specs.declared.seat.Seat.{Seat}
use Rattle.conversation.specs.ThreadSession.{LeavesRooms}
use Rattle.conversation.specs.Seating.{cells_in}
use Rattle.conversation.proofs.pad_table.PadTable.leave_all.Given as goal

-- the session stays whose it is, and where the rooms that are left over are left, all are
abbrev pub invariant-loop-room : goal.invariant-loop-room
invariant-loop-room g l =
    (l.session.who ≡ l.fn.session.who)
    × ((last : List Seat) → LeavesRooms (cells_in l.self.cells.now) l.session.who l.session.rooms l.seats.items last →
    LeavesRooms (cells_in l.self.cells.now) l.fn.session.who l.fn.session.rooms l.fn.seats.items last)

-- the pads that are left
abbrev pub decreases-loop-room : goal.decreases-loop-room
decreases-loop-room g l = length l.session.rooms
