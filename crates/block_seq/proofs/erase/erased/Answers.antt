use Rattle.std.proofs.Common.{rules}
use Rattle.block_seq.proofs.erase.erased.Goals as goal

pub returns : goal.returns
returns c = search rules
