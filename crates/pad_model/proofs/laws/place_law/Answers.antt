use Rattle.pad_model.proofs.Shown.{before_at-cells_of, through_at-cells_of}
use Rattle.pad_model.proofs.laws.place_law.Goals as goal

pub returns : goal.returns
returns c = λ log h k a there. (before_at-cells_of log k a h there, through_at-cells_of log k a h there)
