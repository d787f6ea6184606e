use Rattle.rights.proofs.Greater.{unshared}
use Rattle.rights.proofs.laws.unshared_law.Goals as goal

pub returns : goal.returns
returns _ = unshared
