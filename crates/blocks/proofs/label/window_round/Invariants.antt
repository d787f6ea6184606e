-- The loop of `window_round`: the reach is at least 1, and it grows up to the number of blocks, so the loop ends.
use Rattle.std.proofs.Common.{◌≤◌, ◌-◌, length}
use Rattle.blocks.proofs.label.window_round.Given as goal

-- the reach doubles from 1 on
abbrev pub invariant-loop-reach : goal.invariant-loop-reach
invariant-loop-reach l = 1 ≤ l.reach

abbrev pub decreases-loop-reach : goal.decreases-loop-reach
decreases-loop-reach l = length l.tree.items - l.reach
