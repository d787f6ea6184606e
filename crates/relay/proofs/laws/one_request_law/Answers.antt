use Rattle.relay.proofs.Turns.{one_request}
use Rattle.relay.proofs.laws.one_request_law.Goals as goal

pub returns : goal.returns
returns g _ = one_request g.P.Pads.calls g.P.Pads.names
