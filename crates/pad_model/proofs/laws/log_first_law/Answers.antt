use Rattle.pad_model.proofs.LogPieces.{first-log}
use Rattle.pad_model.proofs.laws.log_first_law.Goals as goal

pub returns : goal.returns
returns c = first-log
