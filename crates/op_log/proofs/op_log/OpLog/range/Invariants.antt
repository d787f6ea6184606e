-- The loop of `range`: the copies so far are those of the places passed.
use Rattle.std.proofs.Common.{◌≡◌, ◌≤◌, ◌-◌, max, take, drop}
use Rattle.op_log.proofs.op_log.OpLog.range.Given as goal

abbrev pub invariant-loop-place : goal.invariant-loop-place
invariant-loop-place l = record {
  copies : l.answer ≡ take (l.place - l.start) (drop l.start l.self.operations);
  upto : l.place ≤ max l.start l.end;
}
