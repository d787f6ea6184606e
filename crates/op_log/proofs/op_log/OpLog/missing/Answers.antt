use Rattle.std.proofs.Common.{filter, drop}
use Rattle.op_log.specs.Log.{is_missing, missing}
use Rattle.op_log.proofs.Ranges.{taken_more}
use Rattle.op_log.proofs.op_log.OpLog.missing.Goals as goal

pub loop-n-preserved : goal.loop-n-preserved
loop-n-preserved c =
    let ops = c.args.self.now.operations in
    let m = is_missing c.args.seen.now in
    taken_more c.loop-n.answer c.push.new.self (filter m (drop c.loop-n.from ops))
    (filter m (drop c.in-Some.found.behind ops)) (missing ops c.args.seen.now c.args.max) c.in-Some.found.op c.args.max
    c.loop-n._n c.loop-n-test.true (rw c.in-Some.is at c.in_ok-found.ensures.ok) c.in_ok-push.ensures.ok
    c.loop-n.invariant
