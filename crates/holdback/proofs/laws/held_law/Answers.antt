use Rattle.holdback.proofs.Members.{permutation_with}
use Rattle.holdback.proofs.laws.held_law.Goals as goal

pub returns : goal.returns
returns _ op held = permutation_with op held
