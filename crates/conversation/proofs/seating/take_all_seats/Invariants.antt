-- The loop of `take_all_seats`: each thread so far has a seat at each cell, behind the threads that were there.
use Rattle.std.proofs.Common.{◌≡◌, ◌++◌, List}
use Rattle.std.specs.Prelude.{Vec, replicate}
use Rattle.std.specs.declared.alloc.Global.{Global}
use Rattle.shared_pads.specs.declared.seat.Seat.{Seat}
use Rattle.conversation.specs.Seating.{cells_in, crew_cells}
use Rattle.conversation.proofs.seating.take_all_seats.Given as goal

-- each thread so far has a seat at each cell
abbrev pub invariant-loop-thread : goal.invariant-loop-thread
invariant-loop-thread g l = (more : List (Vec Seat Global)) × (l.crew.items ≡ l.fn.crew.items ++ more)
    × (crew_cells more ≡ replicate l._thread (cells_in l.cells))
