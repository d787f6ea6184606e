use Rattle.std.proofs.Common.{refl, sym, ap, subst, ◌∙◌, arith, length}
use Rattle.holdback.specs.Inside.{IsHold, IsGapFor}
use Rattle.holdback.proofs.Kept.{hold_with}
use Rattle.holdback.proofs.held.Hold.offer.Goals as goal

-- the new operation stands at its place
pub invariant_of-self-2 : goal.invariant_of-self-2
invariant_of-self-2 c =
    let held = c.self.inside.operations.items in
    let gap : IsGapFor held c.args.op.name c.in-Err.place = rw c.deref.ensures.value at c.in-Err.ensures.absent in
    subst IsHold (gap.fits c.args.op refl ∙ sym c.in_ok-insert.ensures.items)
    (hold_with held c.args.op c.self.invariant gap.absent (omega (arith, c.len.ensures, ap length c.self.view_is)))
