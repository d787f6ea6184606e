use Rattle.relay.proofs.Turns.{pulled_then, pushed_then}
use Rattle.relay.proofs.laws.turns_law.Goals as goal

pub returns-clause-pulled : goal.returns-clause-pulled
returns-clause-pulled g _ = pulled_then g.P.Pads.calls g.P.Pads.names

pub returns-clause-pushed : goal.returns-clause-pushed
returns-clause-pushed g _ = pushed_then g.P.Pads.calls g.P.Pads.names
