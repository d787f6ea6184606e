use Rattle.pad_model.proofs.SeenLemmas.{vectors_same}
use Rattle.pad_model.proofs.vector_laws.counts_law.Goals as goal

pub returns : goal.returns
returns _ v w h k same = vectors_same v w h k same
