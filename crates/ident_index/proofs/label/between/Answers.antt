use Rattle.std.proofs.Common.{arith}
use Rattle.ident_index.proofs.label.between.Goals as goal

pub returns-clause-value : goal.returns-clause-value
returns-clause-value c = grind arith

pub returns-clause-within : goal.returns-clause-within
returns-clause-within c = grind arith
