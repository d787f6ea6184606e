use Rattle.pad_model.specs.Laws.{itself}
use Rattle.pad_model.proofs.Sets.{Has-from_Contains, Contains-from_Has}
use Rattle.pad_model.proofs.Filters.{order-subset}
use Rattle.pad_model.proofs.laws.subset_law.Goals as goal

pub returns : goal.returns
returns _ s u p q h = order-subset itself s u p q (λ c m. Has-from_Contains u c (h c (Contains-from_Has s c m)))
