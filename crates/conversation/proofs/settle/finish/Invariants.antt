-- The loop of `finish`: some moves were made, something is still under way, and the moves left become fewer.
use Rattle.std.proofs.Common.{ℕ}
use Rattle.conversation.specs.Calls.{IsUnderWay, Scans}
use Rattle.conversation.specs.Fuel.{moves_left}
use Rattle.conversation.proofs.settle.finish.Given as goal

-- some moves were made, and something is still under way
abbrev pub invariant-loop-told : goal.invariant-loop-told
invariant-loop-told g l = record {
  busy : IsUnderWay l.server l.actor;
  moves : (count : ℕ) × Scans l.actor count l.fn.server l.server;
}

-- the moves that are left
abbrev pub decreases-loop-told : goal.decreases-loop-told
decreases-loop-told g l = moves_left l.actor l.server
