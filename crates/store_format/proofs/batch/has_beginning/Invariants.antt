-- The loop of `has_beginning`: whether one of the lines that are left begins a batch says whether one of all does.
use Rattle.std.proofs.Common.{◌≡◌, ◌≤◌, length}
use Rattle.std.specs.List.{list_any}
use Rattle.store_format.specs.Batches.{begins_batch}
use Rattle.store_format.specs.Lines.{whole_lines}
use Rattle.store_format.proofs.batch.has_beginning.Given as goal

-- whether one of the lines that are left begins a batch says whether one of all does
abbrev pub invariant-loop-end : goal.invariant-loop-end
invariant-loop-end l = (list_any begins_batch (whole_lines l.rest) ≡ list_any begins_batch (whole_lines l.fn.bytes))
    × (length l.rest ≤ length l.fn.bytes)

abbrev pub decreases-loop-end : goal.decreases-loop-end
decreases-loop-end l = length l.rest
