use Rattle.shared_pads.proofs.Tallies.{closed}
use Rattle.shared_pads.proofs.shared_pad.SharedPad.close.Goals as goal

pub returns-in-Some-clause-closed : goal.returns-in-Some-clause-closed
returns-in-Some-clause-closed g c =
    closed c.args.self.cell c.into_inner-kept.result c.into_pad.result c.args.seats.items c.as_slice.result.now
    c.in-Some.sums c.in-Some.ensures.sums c.in-Some.ensures.standing c.as_slice.ensures.value c.into_pad.ensures
