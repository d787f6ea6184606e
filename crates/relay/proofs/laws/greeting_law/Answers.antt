use Rattle.relay.proofs.Rounds.{greets_then, misses_then}
use Rattle.relay.proofs.laws.greeting_law.Goals as goal

pub returns-clause-greeted : goal.returns-clause-greeted
returns-clause-greeted g _ = greets_then g.P.Pads.calls g.P.Pads.names

pub returns-clause-missed : goal.returns-clause-missed
returns-clause-missed g _ = misses_then g.P.Pads.calls g.P.Pads.names
