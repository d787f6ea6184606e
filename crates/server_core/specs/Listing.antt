-- A list of pads, collected cell by cell.
use Rattle.std.specs.Prelude.{ℕ, ◌+◌, nat_lt, if◌then◌else◌, List, [], ◌++◌, length, Option, Some, None, slice_get}
use Rattle.pad_model.specs.declared.who.Who.{Who}
use Rattle.pad_core.specs.Listing.{listing, one_or_none}
use Rattle.pad_core.specs.Machine.{Machine}
use Rattle.pad_core.specs.declared.reply.Listed.{Listed}
use Rattle.pad_core.specs.declared.reply.Reply.TheVariants.{Pads}
use Rattle.server_core.specs.Actor.{Actor, rested}
use Rattle.server_core.specs.declared.step.Moved.{Moved}
use Rattle.server_core.specs.declared.step.Moved.TheVariants.{Scanning, Done}
use Rattle.server_core.specs.declared.task.Task.TheVariants.{Listing}

-- the pad that the cell at an index of the row adds to somebody's list; past the row, none
abbrev pub listed_at : Who → ℕ → List Machine → List Listed
listed_at who cell cells = at_cell (slice_get cells cell)
  where
    at_cell : Option Machine → List Listed
    at_cell None = []
    at_cell (Some m) = one_or_none (listing who m)

-- a list of pads with what one more cell adds: it goes on if another cell follows, and otherwise it is the answer
abbrev pub list_on : ℕ → List Listed → Actor → List Machine → Moved × Actor × List Machine
list_on cell found a cells =
    let more = found ++ listed_at a.who cell cells in
    if nat_lt (cell + 1) (length cells)
    then (Scanning, record a { task = Listing (cell + 1) more }, cells)
    else (Done (Pads more), rested a, cells)
