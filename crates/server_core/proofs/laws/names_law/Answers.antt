use Rattle.server_core.proofs.NameRuns.{names_in_turn}
use Rattle.server_core.proofs.laws.names_law.Goals as goal

pub returns : goal.returns
returns c = names_in_turn
