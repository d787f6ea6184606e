use Rattle.std.proofs.Common.{Ok, ap, ◌∙◌}
use Rattle.pad_core.proofs.Exits.{fails_passed}
use Rattle.relay.proofs.Pushes.{and_else, and_so, given_breaks, heard_breaks, lacks_given, lacks_none, lacks_over}
use Rattle.relay.proofs.Pushes.{lacks_room, pushed_all}
use Rattle.relay.proofs.push.push_lacking.Goals.{else-heard, then-heard}
use Rattle.relay.proofs.push.push_lacking.Goals as goal

pub returns-in_err-after-clause-breaks : goal.returns-in_err-after-clause-breaks
returns-in_err-after-clause-breaks g c =
    fails_passed _ c.from_residual.result c.from_residual.ensures.1
    (lacks_room g.P.Pads.calls g.P.Pads.names c.args.pad.now c.args.seen c.in_err-after.field-0.0 c.args.talk.now _ _
    c.in_err-after.ensures.memory)

pub returns-in_err-ops-clause-breaks : goal.returns-in_err-ops-clause-breaks
returns-in_err-ops-clause-breaks g c =
    fails_passed _ c.from_residual-in_err-ops.result c.from_residual-in_err-ops.ensures.1
    (lacks_none g.P.Pads.calls g.P.Pads.names _ c.args.seen c.own_ops.result c.in_err-ops.field-0.0 c.args.talk.now
    _ _ _ c.in_err-ops.was c.in_err-ops.ensures.memory c.own_ops.ensures.asks)

pub returns-in_default-clause-goes : goal.returns-in_default-clause-goes
returns-in_default-clause-goes g c =
    lacks_over g.P.Pads.calls g.P.Pads.names _ c.args.seen c.own_ops.result c.args.talk.now _ _ _ (c.in_ok-ops.was
    ∙ ap Ok c.in_default.is) c.own_ops.ensures.asks

pub returns-in_err-given-clause-breaks : goal.returns-in_err-given-clause-breaks
returns-in_err-given-clause-breaks g c =
    fails_passed _ c.from_residual-in_err-given.result c.from_residual-in_err-given.ensures.1
    (given_breaks g.P.Pads.calls g.P.Pads.names c.args.pad.now c.in_err-given.field-0.0 c.args.seen c.in_ok-after.after
    c.as_slice.result.now c.args.talk.now _ _ _ _
    (lacks_given g.P.Pads.calls g.P.Pads.names c.args.pad.now c.args.seen c.in_ok-after.after c.own_ops.result c.in-Some.ops
    c.as_slice.result.now c.args.talk.now _ _ _ (c.in_ok-ops.was ∙ ap Ok c.in-Some.is) c.own_ops.ensures.asks
    c.as_slice.ensures c.in_ok-after.ensures.copied)
    c.in_err-given.ensures.breaks)

pub returns-in_err-heard-clause-breaks : goal.returns-in_err-heard-clause-breaks
returns-in_err-heard-clause-breaks g c =
    fails_passed _ c.from_residual-in_err-heard.result c.from_residual-in_err-heard.ensures.1
    (heard_breaks g.P.Pads.calls g.P.Pads.names c.args.pad.now c.in_err-heard.field-0.0 c.args.seen c.in_ok-after.after _
    c.as_slice.result.now c.in_ok-given.given c.args.talk.now _ _ _ _ _ _
    (lacks_given g.P.Pads.calls g.P.Pads.names c.args.pad.now c.args.seen c.in_ok-after.after c.own_ops.result c.in-Some.ops
    c.as_slice.result.now c.args.talk.now _ _ _ (c.in_ok-ops.was ∙ ap Ok c.in-Some.is) c.own_ops.ensures.asks
    c.as_slice.ensures c.in_ok-after.ensures.copied)
    c.in_ok-given.ensures.gives c.in_err-heard.ensures.breaks)

pub returns-clause-goes : goal.returns-clause-goes
returns-clause-goes g c =
    pushed_all g.P.Pads.calls g.P.Pads.names c.args.pad.now c.args.seen c.in_ok-after.after _
    c.as_slice.result.now c.in_ok-given.given c.in_ok-heard.heard c.args.talk.now _ _ _ _ _ _ _ _ _ _
    (lacks_given g.P.Pads.calls g.P.Pads.names c.args.pad.now c.args.seen c.in_ok-after.after c.own_ops.result c.in-Some.ops
    c.as_slice.result.now c.args.talk.now _ _ _ (c.in_ok-ops.was ∙ ap Ok c.in-Some.is) c.own_ops.ensures.asks
    c.as_slice.ensures c.in_ok-after.ensures.copied)
    c.in_ok-given.ensures.gives c.in_ok-heard.ensures.hears c.if_all.ensures c.note_known.ensures
    (elim c.if-heard.branch [
      | then-heard w ↦ and_so _ _ _ w.if-heard.true w.result-is
      | else-heard w ↦ and_else _ _ _ w.if-heard.false (w.result-is ∙ w.if-heard.false)
    ])
