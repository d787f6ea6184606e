use Rattle.rights.proofs.Greater.{guest_allows}
use Rattle.rights.proofs.laws.guest_law.Goals as goal

pub returns : goal.returns
returns _ = guest_allows
