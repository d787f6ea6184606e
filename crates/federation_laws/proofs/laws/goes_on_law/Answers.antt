use Rattle.federation_laws.proofs.Worlds.{goes_on}
use Rattle.federation_laws.proofs.laws.goes_on_law.Goals as goal

pub returns : goal.returns
returns c = goes_on
