use Rattle.std.proofs.Common.{rules}
use Rattle.block_seq.proofs.readers.is_shown.Goals as goal

pub returns-then-cell-rev : goal.returns-then-cell-rev
returns-then-cell-rev c = search rules
