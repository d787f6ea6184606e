use Rattle.ident_index.proofs.Sound.{sound_empty}
use Rattle.ident_index.proofs.index.IdentIndex.new.Goals as goal

pub invariant_of-result : goal.invariant_of-result
invariant_of-result c = rw c.new.ensures.empty sound_empty
