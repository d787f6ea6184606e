-- The loop of `scan`: the cells visited so far have other names.
use Rattle.std.proofs.Common.{◌≡◌, ◌-◌, ◌≤◌}
use Rattle.conversation.specs.PadTable.{Passes}
use Rattle.conversation.specs.Seating.{cells_in}
use Rattle.conversation.proofs.pad_table.PadTable.scan.Given as goal

-- the cells so far have other names
abbrev pub invariant-loop-place : goal.invariant-loop-place
invariant-loop-place g l =
    (l.fn.start ≤ l.place) × (l.session.who ≡ l.fn.session.who)
    × Passes (cells_in l.self.cells.now) l.fn.session.who l.fn.request l.fn.start (l.place - l.fn.start)
    (record { rooms = l.fn.session.rooms; seats = l.fn.seats.items })
    (record { rooms = l.session.rooms; seats = l.seats.items })
