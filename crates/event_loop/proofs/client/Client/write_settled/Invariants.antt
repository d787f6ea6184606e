use Rattle.std.proofs.Common.{◌≤◌, length, min}
use Rattle.event_loop.proofs.client.Client.write_settled.Given as goal

-- what is held back stays
abbrev pub invariant-loop-write : goal.invariant-loop-write
invariant-loop-write g l = min l.held (length l.fn.self.party.talk.replies) ≤ length l.self.party.talk.replies
