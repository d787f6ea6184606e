use Rattle.pad_core.proofs.SameSet.{same_members}
use Rattle.pad_core.proofs.laws.same_set_law.Goals as goal

pub returns : goal.returns
returns _ = same_members
