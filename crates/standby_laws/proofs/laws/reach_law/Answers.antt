use Rattle.standby_laws.proofs.Reaching.{reaches}
use Rattle.standby_laws.proofs.laws.reach_law.Goals as goal

pub returns : goal.returns
returns c = reaches
