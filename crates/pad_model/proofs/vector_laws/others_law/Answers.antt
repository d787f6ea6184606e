use Rattle.pad_model.proofs.SeenLemmas.{count_in-with_other}
use Rattle.pad_model.proofs.vector_laws.others_law.Goals as goal

pub returns : goal.returns
returns _ v o n q ne = count_in-with_other v o n q ne
