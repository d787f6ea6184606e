use Rattle.std.proofs.Common.{ap}
use Rattle.rights.specs.Rights.{may}
use Rattle.pad_core.specs.Machine.{or_denied}
use Rattle.pad_core.proofs.admit.refuse_right.Goals as goal

pub returns-in-Some : goal.returns-in-Some
returns-in-Some c = ap (λ r. or_denied r (may c.args.rights.now c.args.name.now c.args.right)) c.in-Some.ensures
