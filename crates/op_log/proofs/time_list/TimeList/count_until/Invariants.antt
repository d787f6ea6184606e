-- The loop of `count_until`: the answer is between the two ends.
use Rattle.std.proofs.Common.{◌-◌, ◌≤◌, length}
use Rattle.op_log.specs.Times.{count_until}
use Rattle.op_log.proofs.time_list.TimeList.count_until.Given as goal

abbrev pub invariant-loop-low : goal.invariant-loop-low
invariant-loop-low l = (l.low ≤ count_until l.moment l.self.times) × (count_until l.moment l.self.times ≤ l.high)

abbrev pub decreases-loop-low : goal.decreases-loop-low
decreases-loop-low l = l.high - l.low
