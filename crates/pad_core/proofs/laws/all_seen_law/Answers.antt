use Rattle.pad_core.proofs.Causes as causes
use Rattle.pad_core.proofs.laws.all_seen_law.Goals as goal

pub returns : goal.returns
returns _ = causes.all_seen_law
