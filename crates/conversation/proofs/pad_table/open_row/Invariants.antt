-- The loop of `open_row`: there is a pad in each cell so far.
use Rattle.std.proofs.Common.{◌≡◌}
use Rattle.std.specs.List.{range_with_len}
use Rattle.conversation.specs.Seating.{cells_in}
use Rattle.conversation.proofs.pad_table.open_row.Given as goal

-- there is a pad in each cell so far
abbrev pub invariant-loop-cell : goal.invariant-loop-cell
invariant-loop-cell g l = cells_in l.row.items ≡ range_with_len 0 l.cell
