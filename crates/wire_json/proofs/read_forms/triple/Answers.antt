use Rattle.std.proofs.Common.{refl}
use Rattle.wire_json.proofs.Items.{not_three}
use Rattle.wire_json.proofs.read_forms.triple.Goals as goal

pub returns-then-items-ne3 : goal.returns-then-items-ne3
returns-then-items-ne3 c = (refl, rw c.in_ok-items.ensures (not_three c.in_ok-items.items.now c.if-items-ne3.true))
