use Rattle.std.proofs.Common.{arith}
use Rattle.blocks.proofs.label.window_round.Goals as goal

pub loop-reach-smaller : goal.loop-reach-smaller
loop-reach-smaller c = omega (arith, c.loop-reach.invariant, c.loop-reach-test.true, c.len.ensures.len)
