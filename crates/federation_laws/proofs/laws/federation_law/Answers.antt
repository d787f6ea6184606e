use Rattle.federation_laws.proofs.Federated.{federated}
use Rattle.federation_laws.proofs.laws.federation_law.Goals as goal

pub returns : goal.returns
returns c = federated
