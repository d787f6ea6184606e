use Rattle.pad_model.specs.Laws.{itself}
use Rattle.pad_model.proofs.Members.{order-permutation}
use Rattle.pad_model.proofs.laws.members_law.Goals as goal

pub returns : goal.returns
returns _ s t = order-permutation itself s t
