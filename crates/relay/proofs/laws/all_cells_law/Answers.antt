use Rattle.relay.proofs.Places.{all_cells}
use Rattle.relay.proofs.laws.all_cells_law.Goals as goal

pub returns : goal.returns
returns g _ = all_cells g.P.Pads.calls g.P.Pads.names
