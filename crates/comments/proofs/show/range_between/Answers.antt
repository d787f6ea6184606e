use Rattle.std.proofs.Common.{arith}
use Rattle.comments.proofs.show.range_between.Goals as goal

pub returns : goal.returns
returns c = grind arith
