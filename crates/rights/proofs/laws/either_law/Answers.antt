use Rattle.rights.proofs.Greater.{either_allows}
use Rattle.rights.proofs.laws.either_law.Goals as goal

pub returns : goal.returns
returns _ = either_allows
