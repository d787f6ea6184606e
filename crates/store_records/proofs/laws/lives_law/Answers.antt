use Rattle.store_records.proofs.Steps.{life_again}
use Rattle.store_records.proofs.laws.lives_law.Goals as goal

pub returns : goal.returns
returns c replica present records m life = life_again replica present records m life
