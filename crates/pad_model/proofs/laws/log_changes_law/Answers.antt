use Rattle.pad_model.proofs.LogPieces.{patched-log}
use Rattle.pad_model.proofs.laws.log_changes_law.Goals as goal

pub returns : goal.returns
returns c = patched-log
