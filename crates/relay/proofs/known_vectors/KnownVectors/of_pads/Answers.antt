use Rattle.std.proofs.Common.{None}
use Rattle.server_core.proofs.Rows.{repeat-more}
use Rattle.relay.proofs.known_vectors.KnownVectors.of_pads.Goals as goal

pub loop-preserved : goal.loop-preserved
loop-preserved c = rw (c.in_ok-push.ensures.items, c.loop.invariant) (repeat-more c.loop.counter None)
