use Rattle.std.proofs.Common.{suc}
use Rattle.thread_tests.proofs.pool.serve_all.Goals as goal

pub loop-preserved : goal.loop-preserved
loop-preserved g c = (suc c.loop.invariant.0, (c.loop.pads, c.loop.invariant.1, c.serve-served.ensures))
