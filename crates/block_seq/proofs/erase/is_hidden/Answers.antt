use Rattle.std.proofs.Common.{rules}
use Rattle.block_seq.proofs.erase.is_hidden.Goals as goal

pub returns-then-is_named : goal.returns-then-is_named
returns-then-is_named c = search rules
