use Rattle.pad_model.proofs.SeenLemmas.{count_in-with_count}
use Rattle.pad_model.proofs.vector_laws.count_law.Goals as goal

pub returns : goal.returns
returns _ v h o n = count_in-with_count v h o n
