use Rattle.pad_model.specs.Laws.{itself}
use Rattle.pad_model.proofs.Filters.{order-filter}
use Rattle.pad_model.proofs.laws.revision_law.Goals as goal

pub returns : goal.returns
returns _ u test p q = order-filter itself test u p q
