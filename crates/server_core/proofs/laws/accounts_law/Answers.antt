use Rattle.server_core.proofs.LogIns.{others_go_on}
use Rattle.server_core.proofs.laws.accounts_law.Goals as goal

pub returns : goal.returns
returns c = others_go_on
