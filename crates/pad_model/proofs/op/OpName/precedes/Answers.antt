use Rattle.std.proofs.Common.{arith}
use Rattle.pad_model.proofs.op.OpName.precedes.Goals as goal

pub returns-then-self-other : goal.returns-then-self-other
returns-then-self-other c = grind arith

pub returns-else-self-other-2 : goal.returns-else-self-other-2
returns-else-self-other-2 c = grind arith
