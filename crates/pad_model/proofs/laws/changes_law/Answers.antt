use Rattle.pad_model.proofs.Pieces.{patched-changes, new-changes, old-changes}
use Rattle.pad_model.proofs.laws.changes_law.Goals as goal

pub returns : goal.returns
returns c = λ rev to cells. (patched-changes rev to cells, old-changes rev to cells, new-changes rev to cells)
