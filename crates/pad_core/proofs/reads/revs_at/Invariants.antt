-- The loop of `revs_at`: the revisions so far and those of the moments that are left are all.
use Rattle.std.proofs.Common.{◌≡◌, ◌++◌, drop, map}
use Rattle.op_log.specs.Times.{count_until}
use Rattle.pad_core.proofs.reads.revs_at.Given as goal

abbrev pub invariant-loop-moment : goal.invariant-loop-moment
invariant-loop-moment l =
    l.list.items ++ map (λ moment. count_until moment l.times.times) (drop l.moment-index l.moments)
    ≡ map (λ moment. count_until moment l.times.times) l.moments
