-- The loop of `count_differences`: the differences of the bytes so far, which are no more than these.
use Rattle.std.proofs.Common.{◌≡◌, ◌≤◌, take}
use Rattle.sessions.specs.Tokens.{differences}
use Rattle.sessions.proofs.word.count_differences.Given as goal

abbrev pub invariant-loop-i : goal.invariant-loop-i
invariant-loop-i l = record {
  counted : l.count ≡ differences (take l.i l.a) (take l.i l.b);
  few : l.count ≤ l.i;
}
