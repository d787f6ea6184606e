use Rattle.std.proofs.Common.{refl}
use Rattle.wire_json.proofs.Items.{not_two}
use Rattle.wire_json.proofs.read_forms.pair.Goals as goal

pub returns-then-items-ne2 : goal.returns-then-items-ne2
returns-then-items-ne2 c = (refl, rw c.in_ok-items.ensures (not_two c.in_ok-items.items.now c.if-items-ne2.true))
