-- The loop of `who`: the visits listed so far and those to come are all.
use Rattle.std.proofs.Common.{◌≡◌, ◌++◌}
use Rattle.presence.specs.Inside.{visits_of}
use Rattle.presence.proofs.presence.PresenceBook.who.Given as goal

abbrev pub invariant-loop-number : goal.invariant-loop-number
invariant-loop-number l = l.visits ++ visits_of l.number-iterator ≡ l.self.present
