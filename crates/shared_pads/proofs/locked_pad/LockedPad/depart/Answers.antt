use Rattle.std.proofs.Common.{Some, inl, refl, ap, ◌∙◌, arith}
use Rattle.pad_core.specs.Machine.{step}
use Rattle.pad_core.specs.declared.act.Act.TheVariants.{Leave}
use Rattle.shared_pads.specs.LockedPad.{departed}
use Rattle.shared_pads.proofs.Calls.{calls_low, departs, departs_known, number_low}
use Rattle.shared_pads.proofs.locked_pad.LockedPad.depart.Goals as goal

pub with_departure-tally-requires : goal.with_departure-tally-requires
with_departure-tally-requires g c =
    calls_low _ _ c.self.inside.tallies.items _ _ _ _ c.args.seat.now c.self.view_is
    (c.knows.ensures.0 c.if-not-knows.false) c.self.invariant

pub index_mut-requires : goal.index_mut-requires
index_mut-requires g c =
    let low = number_low _ _ c.self.inside.tallies.items _ _ _ _ c.args.seat.now c.self.view_is
    (c.knows.ensures.0 c.if-not-knows.false) c.self.invariant in
    omega arith

pub invariant_of-self : goal.invariant_of-self
invariant_of-self g c =
    departs _ _ c.self.inside.tallies.items _ _ _ _ c.args.seat.now c.self.view_is (c.knows.ensures.0 c.if-not-knows.false)
    c.self.invariant
    c.as_str.result.now c.args.who.now c.args.room.now.visit c.depart.new.self c.with_departure-tally.result
    c.depart.ensures c.with_departure-tally.ensures

pub returns-then-not-knows-clause-departs : goal.returns-then-not-knows-clause-departs
returns-then-not-knows-clause-departs g c = departed c.args.seat.now c.args.who.now c.args.room.now c.args.seat.now
    (inl refl)

pub returns-clause-departs : goal.returns-clause-departs
returns-clause-departs g c =
    departs_known _ _ c.self.inside.tallies.items _ _ _ _ c.args.seat.now c.self.view_is
    (c.knows.ensures.0 c.if-not-knows.false) c.self.invariant
    c.args.who.now c.args.room.now c.depart.new.self c.with_departure-tally.result
    (c.depart.ensures
    ∙ ap (λ n. (step n c.args.who.now (Some c.args.room.now.visit) Leave c.self.inside.pad).1) c.as_str.ensures)
    c.with_departure-tally.ensures c.revision-before.ensures.delivered c.revision-before.ensures.kept
    c.revision-after.ensures.delivered c.revision-after.ensures.kept
