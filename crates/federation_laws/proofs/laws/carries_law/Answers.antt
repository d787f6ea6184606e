use Rattle.federation_laws.proofs.Carries.{carries_law}
use Rattle.federation_laws.proofs.laws.carries_law.Goals as goal

pub returns : goal.returns
returns c = carries_law
