-- The loop of `erase`: the cells passed so far are marked as erased where a span names them.
use Rattle.std.proofs.Common.{◌≡◌, ◌++◌, map, take, drop}
use Rattle.block_seq.specs.Plain.{erased_at}
use Rattle.block_seq.proofs.erase.erase.Given as goal

-- the cells so far are marked
abbrev pub invariant-loop-cell : goal.invariant-loop-cell
invariant-loop-cell l = l.cells ≡ map (erased_at l.rev l.spans) (take l.cell-index l.initial.cells)
    ++ drop l.cell-index l.initial.cells
