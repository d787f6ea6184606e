use Rattle.standby_laws.proofs.Events.{lasting}
use Rattle.standby_laws.proofs.laws.lasting_law.Goals as goal

pub returns : goal.returns
returns c = lasting
