use Rattle.std.proofs.Common.{arith}
use Rattle.pad_model.proofs.stamp.Stamp.new.Goals as goal

pub invariant_of-result : goal.invariant_of-result
invariant_of-result c = grind arith

pub returns : goal.returns
returns c = grind arith
