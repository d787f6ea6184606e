-- The loop of `fill`: the nodes are empty, no fewer than before, and there is room for those that are wanted.
use Rattle.std.proofs.Common.{◌-◌, ◌≤◌, length, vec_capacity}
use Rattle.authorship.specs.StoredRuns.{AreEmpty}
use Rattle.authorship.proofs.run_tree.fill.Given as goal

-- the nodes are empty and no fewer, and there is room for those that are wanted
abbrev pub invariant-loop-alloc : goal.invariant-loop-alloc
invariant-loop-alloc l = record {
  empty : AreEmpty l.spare.items;
  more : length l.initial.spare.items ≤ length l.spare.items;
  room : l.wanted ≤ vec_capacity l.spare;
}

abbrev pub decreases-loop-alloc : goal.decreases-loop-alloc
decreases-loop-alloc l = l.wanted - length l.spare.items
