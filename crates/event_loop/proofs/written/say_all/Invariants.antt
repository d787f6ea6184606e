use Rattle.std.proofs.Common.{◌≤◌, length, min}
use Rattle.event_loop.proofs.written.say_all.Given as goal

-- what is held back stays
abbrev pub invariant-loop : goal.invariant-loop
invariant-loop l = min l.held (length l.fn.party.talk.replies) ≤ length l.party.talk.replies

-- each reply that is said is one less
abbrev pub decreases-loop : goal.decreases-loop
decreases-loop l = length l.party.talk.replies
