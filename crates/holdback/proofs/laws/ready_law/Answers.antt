use Rattle.holdback.specs.Held.{is_ready}
use Rattle.holdback.proofs.Next.{named_first}
use Rattle.holdback.proofs.laws.ready_law.Goals as goal

pub returns : goal.returns
returns _ seen op held r is = named_first (is_ready seen) held op r is
