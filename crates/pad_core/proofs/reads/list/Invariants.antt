-- The loop of `list`: the entries so far and those of the rest are all, and their revisions count on.
use Rattle.std.proofs.Common.{◌≡◌, ◌+◌, ◌++◌, drop}
use Rattle.pad_core.specs.Reads.{entries_from}
use Rattle.pad_core.proofs.reads.list.Given as goal

-- the entries so far and those of the rest are all, and revisions count on
abbrev pub invariant-loop-op : goal.invariant-loop-op
invariant-loop-op l = (l.entries.items ++ entries_from l.timed l.times.times l.rev (drop l.op-index l.ops)
    ≡ entries_from l.timed l.times.times l.from l.ops)
    × (l.rev ≡ l.from + l.op-index)
