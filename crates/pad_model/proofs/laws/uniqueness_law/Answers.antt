use Rattle.pad_model.specs.Laws.{itself}
use Rattle.pad_model.proofs.Tree.{uniqueness_law}
use Rattle.pad_model.proofs.laws.uniqueness_law.Goals as goal

pub returns : goal.returns
returns _ s f t h p = uniqueness_law itself s f t h p
