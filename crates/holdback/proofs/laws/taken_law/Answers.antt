use Rattle.holdback.proofs.Members.{permutation_without}
use Rattle.holdback.proofs.laws.taken_law.Goals as goal

pub returns : goal.returns
returns _ name op held r is = permutation_without name op held r is
