use Rattle.std.proofs.Common.{inl, refl}
use Rattle.shared_pads.specs.LockedPad.{was_called}
use Rattle.shared_pads.proofs.locked_pad.LockedPad.call.Goals as goal

pub returns-then-not-knows-clause-called : goal.returns-then-not-knows-clause-called
returns-then-not-knows-clause-called g c = was_called _ _ _ _ _ _ _ (inl (refl, refl, refl))
