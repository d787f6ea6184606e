use Rattle.pad_model.proofs.Grown.{cells_of-push}
use Rattle.pad_model.proofs.laws.growth_law.Goals as goal

pub returns : goal.returns
returns c = λ log op h checked valid. cells_of-push log op h checked valid
