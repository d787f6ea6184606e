-- The loop of `times_at`: the times so far and those of the places that are left are all.
use Rattle.std.proofs.Common.{◌≡◌, ◌-◌, ◌++◌}
use Rattle.pad_core.specs.Reads.{places_from, times_at}
use Rattle.pad_core.proofs.reads.times_at.Given as goal

abbrev pub invariant-loop-n : goal.invariant-loop-n
invariant-loop-n l =
    l.list.items ++ times_at l.times.times (places_from l.place l.step (l.count - l._n))
    ≡ times_at l.times.times (places_from l.from l.step l.count)
