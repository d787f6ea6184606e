use Rattle.standby_laws.proofs.Events.{copied}
use Rattle.standby_laws.proofs.laws.standby_law.Goals as goal

pub returns : goal.returns
returns c = copied
