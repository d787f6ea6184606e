use Rattle.std.proofs.Common.{Ok, ap, refl, rules, true, false, if◌then◌else◌, ◌+◌, ◌∙◌}
use Rattle.pad_core.proofs.Exits.{fails_passed}
use Rattle.relay.specs.Kept.{world}
use Rattle.relay.specs.Round.Reaches.{here}
use Rattle.relay.specs.Round.Stage.{Over, Pushing}
use Rattle.relay.proofs.Pushes.{pushes_spent}
use Rattle.relay.proofs.Steps.{join, join_at, later}
use Rattle.relay.proofs.push.push_pad.Goals as goal

pub loop-turn-init : goal.loop-turn-init
loop-turn-init g c = record { goes = here; cell = (refl, refl) }

pub returns-then-not-branch-clause-goes : goal.returns-then-not-branch-clause-goes
returns-then-not-branch-clause-goes g c =
    join_at g.P.Pads.calls g.P.Pads.names c.push_turn.result false (λ more. if more
    then Pushing c.args.pad.now (c.loop-turn.turn + 1) else Over) _
    (world c.args.talk.now c.args.pads.now (g.L.LineExchange.wire c.args.link.now)) _
    (world c.loop-turn.talk c.loop-turn.pads (g.L.LineExchange.wire c.loop-turn.link))
    (world c.push_turn.new.talk c.push_turn.new.pads (g.L.LineExchange.wire c.push_turn.new.link))
    c.loop-turn.invariant.goes (c.in_ok-push_turn.was ∙ ap Ok c.if-not-branch.true) c.push_turn.ensures.goes

pub returns-then-not-branch-clause-cell : goal.returns-then-not-branch-clause-cell
returns-then-not-branch-clause-cell g c = (
  c.push_turn.ensures.cell.0 ∙ c.loop-turn.invariant.cell.0,
  c.push_turn.ensures.cell.1 ∙ c.loop-turn.invariant.cell.1,
)

pub returns-in_err-push_turn-clause-cell : goal.returns-in_err-push_turn-clause-cell
returns-in_err-push_turn-clause-cell g c = (
  c.push_turn.ensures.cell.0 ∙ c.loop-turn.invariant.cell.0,
  c.push_turn.ensures.cell.1
      ∙ c.loop-turn.invariant.cell.1,
)

pub returns-in_err-push_turn-clause-breaks : goal.returns-in_err-push_turn-clause-breaks
returns-in_err-push_turn-clause-breaks g c =
    fails_passed _ c.from_residual.result c.from_residual.ensures.1
    (later g.P.Pads.calls g.P.Pads.names c.in_err-push_turn.field-0.0 _
    (world c.args.talk.now c.args.pads.now (g.L.LineExchange.wire c.args.link.now)) _
    (world c.loop-turn.talk c.loop-turn.pads (g.L.LineExchange.wire c.loop-turn.link)) _ _ c.loop-turn.invariant.goes
    c.in_err-push_turn.ensures.breaks)

pub loop-turn-preserved : goal.loop-turn-preserved
loop-turn-preserved g c = record {
  goes = join_at g.P.Pads.calls g.P.Pads.names c.push_turn.result true (λ more. if more
      then Pushing c.args.pad.now (c.loop-turn.turn + 1) else Over) _
      (world c.args.talk.now c.args.pads.now (g.L.LineExchange.wire c.args.link.now)) _
      (world c.loop-turn.talk c.loop-turn.pads (g.L.LineExchange.wire c.loop-turn.link))
      (world c.push_turn.new.talk c.push_turn.new.pads (g.L.LineExchange.wire c.push_turn.new.link))
      c.loop-turn.invariant.goes (c.in_ok-push_turn.was ∙ ap Ok c.if-not-branch.false) c.push_turn.ensures.goes;
  cell = (
    c.push_turn.ensures.cell.0 ∙ c.loop-turn.invariant.cell.0,
    c.push_turn.ensures.cell.1
        ∙ c.loop-turn.invariant.cell.1,
  );
}

pub returns-clause-goes : goal.returns-clause-goes
returns-clause-goes g c =
    let w = world c.loop-turn.talk c.loop-turn.pads (g.L.LineExchange.wire c.loop-turn.link) in
    join g.P.Pads.calls g.P.Pads.names _ (world c.args.talk.now c.args.pads.now (g.L.LineExchange.wire c.args.link.now)) _ w
    _ w
    c.loop-turn.invariant.goes (pushes_spent g.P.Pads.calls g.P.Pads.names c.args.pad.now c.loop-turn.turn w
    (search rules))

pub returns-clause-cell : goal.returns-clause-cell
returns-clause-cell g c = c.loop-turn.invariant.cell
