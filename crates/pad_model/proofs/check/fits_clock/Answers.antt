use Rattle.std.proofs.Common.{arith}
use Rattle.pad_model.proofs.check.fits_clock.Goals as goal

pub returns : goal.returns
returns c = grind arith
