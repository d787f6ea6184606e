use Rattle.pad_model.specs.Laws.{itself}
use Rattle.pad_model.proofs.Sets.{set_law, Has-from_Contains, Contains-from_Has}
use Rattle.pad_model.proofs.laws.set_law.Goals as goal

pub returns : goal.returns
returns _ s t p q h =
    set_law itself s t p.distinct q.distinct (λ c m. Has-from_Contains t c ((h c).0 (Contains-from_Has s c m)))
    (λ c m. Has-from_Contains s c ((h c).1 (Contains-from_Has t c m)))
