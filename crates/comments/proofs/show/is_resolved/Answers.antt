use Rattle.std.proofs.Common.{arith}
use Rattle.comments.proofs.show.is_resolved.Goals as goal

pub returns-in-Some : goal.returns-in-Some
returns-in-Some c = grind arith
