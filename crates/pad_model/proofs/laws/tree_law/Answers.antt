use Rattle.pad_model.specs.Laws.{itself}
use Rattle.pad_model.proofs.Tree.{tree_law}
use Rattle.pad_model.proofs.laws.tree_law.Goals as goal

pub returns : goal.returns
returns _ s t p = tree_law itself s t p
