-- The loop of `whole_lines`: the lines so far and those of the rest are those of all bytes.
use Rattle.std.proofs.Common.{◌≡◌, ◌++◌, ◌≤◌, length, map}
use Rattle.store_format.specs.Lines.{whole_lines}
use Rattle.pad_store.proofs.parting.whole_lines.Given as goal

abbrev pub invariant-loop-end : goal.invariant-loop-end
invariant-loop-end l = (map (λ line. line.now) l.lines.items ++ whole_lines l.rest ≡ whole_lines l.fn.bytes)
    × (length l.rest ≤ length l.fn.bytes)

abbrev pub decreases-loop-end : goal.decreases-loop-end
decreases-loop-end l = length l.rest
