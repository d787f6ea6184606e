-- The loop of `count_following`: all stamps so far follow on one another.
use Rattle.std.proofs.Common.{◌≡◌, ◌+◌, drop}
use Rattle.block_seq.specs.KeptParts.{following}
use Rattle.block_seq.proofs.stretches.count_following.Given as goal

-- all stamps so far follow, and what follows on the last of them is left
abbrev pub invariant-loop-stamp : goal.invariant-loop-stamp
invariant-loop-stamp l = (l.count ≡ l.stamp-index) × (l.count + following l.last (drop l.stamp-index l.stamps)
    ≡ following l.fn.first l.stamps)
