-- The loop of `missing`: the copies so far and the missing operations that are left are all.
use Rattle.std.proofs.Common.{◌≡◌, ◌-◌, ◌++◌, take, drop, filter}
use Rattle.op_log.specs.Log.{is_missing, missing}
use Rattle.op_log.proofs.op_log.OpLog.missing.Given as goal

abbrev pub invariant-loop-n : goal.invariant-loop-n
invariant-loop-n l =
    l.answer ++ take (l.max - l._n) (filter (is_missing l.seen) (drop l.from l.self.operations))
    ≡ missing l.self.operations l.seen l.max
