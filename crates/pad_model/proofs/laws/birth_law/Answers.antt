use Rattle.pad_model.proofs.Growth.{IsTree-history, IsHistory-take}
use Rattle.pad_model.proofs.History.{cells_by-order}
use Rattle.pad_model.proofs.laws.birth_law.Goals as goal

pub returns : goal.returns
returns c = λ log h k. cells_by-order log k (IsTree-history log h) (IsTree-history _ (IsHistory-take log k h))
