use Rattle.store_format.proofs.Writings.{writing}
use Rattle.store_format.proofs.laws.writing_law.Goals as goal

pub returns : goal.returns
returns c = writing
