use Rattle.std.proofs.Common.{Ok, Some, ap, refl, ◌∙◌}
use Rattle.pad_core.proofs.Exits.{fails_passed, passed_on}
use Rattle.relay.specs.Kept.{world}
use Rattle.relay.specs.declared.pull.PullTurn.TheVariants.{Gained, Spent}
use Rattle.relay.proofs.Pulls.{pulled_none, pulled_over, pulled_taken, pulled_wrong}
use Rattle.relay.proofs.Steps.{unheard}
use Rattle.relay.proofs.pull.take_answer.Goals as goal

pub returns-in-Some-Refused-clause-goes : goal.returns-in-Some-Refused-clause-goes
returns-in-Some-Refused-clause-goes g c =
    pulled_over g.P.Pads.calls g.P.Pads.names _ _ c.in_ok-ops.field-0 c.args.talk.now _ _ _ (c.in-Some-Refused.is
    ∙ ap Some c.in-Some-Refused.field-0-is) c.in_ok-ops.ensures.heard

pub returns-in-None-clause-breaks : goal.returns-in-None-clause-breaks
returns-in-None-clause-breaks g c = pulled_wrong g.P.Pads.calls g.P.Pads.names _ _ c.in_ok-ops.field-0
    c.args.talk.now _ _ _ c.in-None.is c.in_ok-ops.ensures.heard

pub returns-in_err-ops-clause-breaks : goal.returns-in_err-ops-clause-breaks
returns-in_err-ops-clause-breaks g c =
    fails_passed _ c.from_residual.result c.from_residual.ensures.1
    (unheard g.P.Pads.calls g.P.Pads.names c.in_err-ops.field-0.0 _
    (world c.args.talk.now c.args.pads.now (g.L.LineExchange.wire c.args.link.now)) _ c.in_err-ops.ensures.fault)

pub returns-then-branch-clause-goes : goal.returns-then-branch-clause-goes
returns-then-branch-clause-goes g c =
    let at = c.in-Some-Said in
    pulled_taken g.P.Pads.calls g.P.Pads.names _ _ c.in_ok-ops.field-0 at.ops c.take_ops.result _ Gained
    c.args.talk.now _ c.take_ops.new.talk _ _ _ _ (at.is ∙ ap Some at.field-0-is) c.in_ok-ops.ensures.heard
    (ap (λ r. record { cells = c.args.talk.now.cells; cell = c.args.talk.now.cell; version = c.args.talk.now.version; relayed = r; known = c.args.talk.now.known }) c.with_pull-talk.ensures)
    (c.in_ok-take_ops.was ∙ ap Ok c.if-branch.true) c.take_ops.ensures.goes refl

pub returns-else-branch-clause-goes : goal.returns-else-branch-clause-goes
returns-else-branch-clause-goes g c =
    let at = c.in-Some-Said in
    pulled_taken g.P.Pads.calls g.P.Pads.names _ _ c.in_ok-ops.field-0 at.ops c.take_ops.result _ Spent
    c.args.talk.now _ c.take_ops.new.talk _ _ _ _ (at.is ∙ ap Some at.field-0-is) c.in_ok-ops.ensures.heard
    (ap (λ r. record { cells = c.args.talk.now.cells; cell = c.args.talk.now.cell; version = c.args.talk.now.version; relayed = r; known = c.args.talk.now.known }) c.with_pull-talk.ensures)
    (c.in_ok-take_ops.was ∙ ap Ok c.if-branch.false) c.take_ops.ensures.goes refl

pub returns-in_err-take_ops-clause-breaks : goal.returns-in_err-take_ops-clause-breaks
returns-in_err-take_ops-clause-breaks g c =
    let at = c.in-Some-Said in
    rw (passed_on c.from_residual-in_err-take_ops.result c.from_residual-in_err-take_ops.ensures.1)
    (pulled_none g.P.Pads.calls g.P.Pads.names _ _ c.in_ok-ops.field-0 at.ops c.in_err-take_ops.field-0.0
    c.args.talk.now _ _ _ _ _
    (at.is ∙ ap Some at.field-0-is) c.in_ok-ops.ensures.heard
    (ap (λ r. record { cells = c.args.talk.now.cells; cell = c.args.talk.now.cell; version = c.args.talk.now.version; relayed = r; known = c.args.talk.now.known }) c.with_pull-talk.ensures)
    c.in_err-take_ops.ensures.lacks)
