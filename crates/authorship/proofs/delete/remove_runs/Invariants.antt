-- The loop of `remove_runs`: the runs from here on to the last that goes are taken out.
use Rattle.std.proofs.Common.{◌≡◌, ◌-◌, ◌≤◌, ◌++◌, take, drop}
use Rattle.authorship.proofs.delete.remove_runs.Given as goal

-- the runs from here on are taken out
abbrev pub invariant-loop-left : goal.invariant-loop-left
invariant-loop-left l = record {
  low : l.from ≤ l.left;
  high : l.left ≤ l.to;
  items : l.runs.items ≡ take l.left l.initial.runs.items ++ drop l.to l.initial.runs.items;
}

abbrev pub decreases-loop-left : goal.decreases-loop-left
decreases-loop-left l = l.left - l.from
