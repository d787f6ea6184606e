use Rattle.pad_model.proofs.InTurn.{with_parts-each}
use Rattle.pad_model.proofs.laws.parts_law.Goals as goal

pub returns : goal.returns
returns c = λ rev author parts cells o checked fit. with_parts-each rev author parts cells o checked fit
