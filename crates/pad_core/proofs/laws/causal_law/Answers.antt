use Rattle.pad_core.proofs.Causes as causes
use Rattle.pad_core.proofs.laws.causal_law.Goals as goal

pub returns : goal.returns
returns _ = causes.causal_law
