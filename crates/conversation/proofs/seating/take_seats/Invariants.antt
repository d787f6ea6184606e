-- The loop of `take_seats`: there is a seat at each cell so far, behind those that were there.
use Rattle.std.proofs.Common.{◌≡◌, ◌++◌, List, take}
use Rattle.shared_pads.specs.declared.seat.Seat.{Seat}
use Rattle.conversation.specs.Seating.{cells_in, cells_of}
use Rattle.conversation.proofs.seating.take_seats.Given as goal

-- there is a seat at each cell so far
abbrev pub invariant-loop-cell : goal.invariant-loop-cell
invariant-loop-cell g l = (more : List Seat) × (l.seats.items ≡ l.fn.seats.items ++ more)
    × (cells_of more ≡ cells_in (take l.cell-index l.cells))
