use Rattle.store_records.proofs.Fronts.{front}
use Rattle.store_records.proofs.laws.fronts_law.Goals as goal

pub returns : goal.returns
returns c replica present records m count life = front replica present records m count life
