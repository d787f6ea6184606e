use Rattle.pad_model.proofs.Pieces.{composed-changes}
use Rattle.pad_model.proofs.laws.composed_law.Goals as goal

pub returns : goal.returns
returns c = composed-changes
