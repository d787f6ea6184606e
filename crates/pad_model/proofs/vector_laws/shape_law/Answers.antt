use Rattle.pad_model.proofs.SeenLemmas.{IsVector-with_count}
use Rattle.pad_model.proofs.vector_laws.shape_law.Goals as goal

pub returns : goal.returns
returns _ v h o n = IsVector-with_count v o n h
