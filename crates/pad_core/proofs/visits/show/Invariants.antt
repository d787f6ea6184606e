-- The loop of `show`: the visits shown so far and the rest are all.
use Rattle.std.proofs.Common.{◌≡◌, ◌++◌, drop, map}
use Rattle.pad_core.specs.Presence.{shown_visit}
use Rattle.pad_core.proofs.visits.show.Given as goal

-- the visits so far and the rest are all
abbrev pub invariant-loop-visit : goal.invariant-loop-visit
invariant-loop-visit g l = l.who.items ++ map (shown_visit l.replica l.ledger) (drop l.visit-index l.visits)
    ≡ map (shown_visit l.replica l.ledger) l.visits
