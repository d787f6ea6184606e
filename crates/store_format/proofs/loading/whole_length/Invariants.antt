-- The loop of `whole_length`: no line feed is behind the front that is left.
use Rattle.std.proofs.Common.{◌≡◌, ◌≤◌, [], length, drop}
use Rattle.store_format.specs.Lines.{whole_lines}
use Rattle.store_format.proofs.loading.whole_length.Given as goal

-- the bytes behind the front have no line feed
abbrev pub invariant-loop-end : goal.invariant-loop-end
invariant-loop-end l = (whole_lines (drop l.end l.bytes) ≡ []) × (l.end ≤ length l.bytes)

abbrev pub decreases-loop-end : goal.decreases-loop-end
decreases-loop-end l = l.end
