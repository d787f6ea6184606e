use Rattle.std.proofs.Common.{arith}
use Rattle.dice.proofs.dice.Dice.roll.Goals as goal

pub returns-clause-value : goal.returns-clause-value
returns-clause-value c = grind arith
