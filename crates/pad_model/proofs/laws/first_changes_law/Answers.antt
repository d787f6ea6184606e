use Rattle.pad_model.proofs.Pieces.{first-changes}
use Rattle.pad_model.proofs.laws.first_changes_law.Goals as goal

pub returns : goal.returns
returns c = first-changes
