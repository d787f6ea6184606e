-- The loop of `spans_of`: the spans so far and those of the stamps that are left are all, and the loop ends.
use Rattle.std.proofs.Common.{◌≡◌, ◌-◌, ◌≤◌, ◌++◌, drop, length}
use Rattle.pad_model.specs.Visible.{spans}
use Rattle.block_seq.proofs.stretches.spans_of.Given as goal

-- the spans so far and those of the stamps that are left are all
abbrev pub invariant-loop-place : goal.invariant-loop-place
invariant-loop-place l = (l.place ≤ length l.stamps) × (l.spans.items ++ spans (drop l.place l.stamps) ≡ spans l.stamps)

abbrev pub decreases-loop-place : goal.decreases-loop-place
decreases-loop-place l = length l.stamps - l.place
