use Rattle.std.proofs.Common.{⊎_elim, refl, subst, arith}
use Rattle.std.specs.List.{AllByRecursion}
use Rattle.shared_pads.specs.LockedPad.{LockedPad}
use Rattle.shared_pads.specs.Seats.{Stands}
use Rattle.shared_pads.proofs.Seated.{all_made, not_all}
use Rattle.shared_pads.proofs.Tallies.{seats_stand}
use Rattle.shared_pads.proofs.locked_pad.LockedPad.sum.Goals as goal

pub returns-in_err-sums-clause-all : goal.returns-in_err-sums-clause-all
returns-in_err-sums-clause-all g c =
    not_all _ c.args.cell c.args.self.now c.args.seats.now c.from_residual.ensures
    (λ all. let made = all_made _ _ c.self.inside.tallies.items _ _ _ c.args.cell c.args.self.now c.args.seats.now c.self.view_is
    c.self.invariant all in
    let revision = c.revision-revision.ensures.value in
    let fits = c.revision-revision.type_inv in
    ⊎_elim (λ much. absurd (omega arith)) (λ much. absurd (omega arith)) c.in_err-sums.ensures.passes)

pub returns-in_err-made-clause-all : goal.returns-in_err-made-clause-all
returns-in_err-made-clause-all g c =
    not_all _ c.args.cell c.args.self.now c.args.seats.now c.from_residual-in_err-made.ensures
    (λ all. let made = all_made _ _ c.self.inside.tallies.items _ _ _ c.args.cell c.args.self.now c.args.seats.now c.self.view_is
    c.self.invariant all in
    let revision = c.revision-revision.ensures.value in
    let fits = c.revision-revision.type_inv in
    let sums = c.in_ok-sums.ensures.sums in
    let past = c.in_err-made.ensures in
    past (omega arith))

pub returns-then-revision-made-clause-all : goal.returns-then-revision-made-clause-all
returns-then-revision-made-clause-all g c =
    not_all _ c.args.cell c.args.self.now c.args.seats.now refl
    (λ all. let made = all_made _ _ c.self.inside.tallies.items _ _ _ c.args.cell c.args.self.now c.args.seats.now c.self.view_is
    c.self.invariant all in
    let revision = c.revision-revision.ensures.value in
    let sums = c.in_ok-sums.ensures.sums in
    let is = c.in_ok-made.ensures in
    ⊎_elim (λ other. other (omega arith)) (λ other. other.1 (omega arith)) c.then-revision-made.either)

pub returns-clause-standing : goal.returns-clause-standing
returns-clause-standing g c =
    seats_stand c.args.cell c.args.self.now c.args.seats.now
    (subst (λ (k : LockedPad). AllByRecursion (λ t. Stands k.pad.log t.last) k.tallies) c.self.view_is
    c.self.invariant.standing) (c.has_all.ensures.0 c.if-not-has_all.false)
