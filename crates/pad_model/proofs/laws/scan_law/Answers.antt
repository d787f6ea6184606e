use Rattle.pad_model.specs.Laws.{itself}
use Rattle.pad_model.proofs.Members.{order-push}
use Rattle.pad_model.proofs.laws.scan_law.Goals as goal

pub returns : goal.returns
returns _ s c t j = order-push itself s c t j
