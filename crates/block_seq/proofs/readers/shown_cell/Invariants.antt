-- The loop of `shown_cell`: the character that is looked for is among the cells that are left.
use Rattle.std.proofs.Common.{◌≡◌, slice_get, filter, drop}
use Rattle.block_seq.specs.Plain.{is_shown}
use Rattle.block_seq.proofs.readers.shown_cell.Given as goal

-- the character is among what is left
abbrev pub invariant-loop-cell : goal.invariant-loop-cell
invariant-loop-cell l = slice_get (filter (is_shown l.rev) l.cells) l.place
    ≡ slice_get (filter (is_shown l.rev) (drop l.cell-index l.cells)) l.left
