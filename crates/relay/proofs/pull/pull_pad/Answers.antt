use Rattle.std.proofs.Common.{Ok, ap, refl, rules, ◌∙◌}
use Rattle.pad_core.proofs.Exits.{fails_passed}
use Rattle.relay.specs.Kept.{after_turn, world}
use Rattle.relay.specs.Round.Reaches.{here}
use Rattle.relay.specs.declared.pull.PullTurn.TheVariants.{Gained, Spent, Over}
use Rattle.relay.proofs.Pulls.{turns_spent}
use Rattle.relay.proofs.Steps.{join, join_at, later}
use Rattle.relay.proofs.pull.pull_pad.Goals as goal

pub loop-turn-init : goal.loop-turn-init
loop-turn-init g c = record { goes = here; cell = (refl, refl) }

pub returns-in-Spent-clause-goes : goal.returns-in-Spent-clause-goes
returns-in-Spent-clause-goes g c =
    join_at g.P.Pads.calls g.P.Pads.names c.pull_turn.result Spent (after_turn c.args.pad.now c.loop-turn.turn) _
    (world c.args.talk.now c.args.pads.now (g.L.LineExchange.wire c.args.link.now)) _
    (world c.loop-turn.talk c.loop-turn.pads (g.L.LineExchange.wire c.loop-turn.link))
    (world c.pull_turn.new.talk c.pull_turn.new.pads (g.L.LineExchange.wire c.pull_turn.new.link))
    c.loop-turn.invariant.goes (c.in_ok-pull_turn.was ∙ ap Ok c.in-Spent.is) c.pull_turn.ensures.goes

pub returns-in-Over-clause-goes : goal.returns-in-Over-clause-goes
returns-in-Over-clause-goes g c =
    join_at g.P.Pads.calls g.P.Pads.names c.pull_turn.result Over (after_turn c.args.pad.now c.loop-turn.turn) _
    (world c.args.talk.now c.args.pads.now (g.L.LineExchange.wire c.args.link.now)) _
    (world c.loop-turn.talk c.loop-turn.pads (g.L.LineExchange.wire c.loop-turn.link))
    (world c.pull_turn.new.talk c.pull_turn.new.pads (g.L.LineExchange.wire c.pull_turn.new.link))
    c.loop-turn.invariant.goes (c.in_ok-pull_turn.was ∙ ap Ok c.in-Over.is) c.pull_turn.ensures.goes

pub returns-in-Spent-clause-cell : goal.returns-in-Spent-clause-cell
returns-in-Spent-clause-cell g c = (
  c.pull_turn.ensures.cell.0 ∙ c.loop-turn.invariant.cell.0,
  c.pull_turn.ensures.cell.1 ∙ c.loop-turn.invariant.cell.1,
)

pub returns-in-Over-clause-cell : goal.returns-in-Over-clause-cell
returns-in-Over-clause-cell g c = (
  c.pull_turn.ensures.cell.0 ∙ c.loop-turn.invariant.cell.0,
  c.pull_turn.ensures.cell.1 ∙ c.loop-turn.invariant.cell.1,
)

pub returns-in_err-pull_turn-clause-cell : goal.returns-in_err-pull_turn-clause-cell
returns-in_err-pull_turn-clause-cell g c = (
  c.pull_turn.ensures.cell.0 ∙ c.loop-turn.invariant.cell.0,
  c.pull_turn.ensures.cell.1
      ∙ c.loop-turn.invariant.cell.1,
)

pub returns-in_err-pull_turn-clause-breaks : goal.returns-in_err-pull_turn-clause-breaks
returns-in_err-pull_turn-clause-breaks g c =
    fails_passed _ c.from_residual.result c.from_residual.ensures.1
    (later g.P.Pads.calls g.P.Pads.names c.in_err-pull_turn.field-0.0 _
    (world c.args.talk.now c.args.pads.now (g.L.LineExchange.wire c.args.link.now)) _
    (world c.loop-turn.talk c.loop-turn.pads (g.L.LineExchange.wire c.loop-turn.link)) _ _ c.loop-turn.invariant.goes
    c.in_err-pull_turn.ensures.breaks)

pub loop-turn-preserved : goal.loop-turn-preserved
loop-turn-preserved g c = record {
  goes = join_at g.P.Pads.calls g.P.Pads.names c.pull_turn.result Gained (after_turn c.args.pad.now c.loop-turn.turn) _
      (world c.args.talk.now c.args.pads.now (g.L.LineExchange.wire c.args.link.now)) _
      (world c.loop-turn.talk c.loop-turn.pads (g.L.LineExchange.wire c.loop-turn.link))
      (world c.pull_turn.new.talk c.pull_turn.new.pads (g.L.LineExchange.wire c.pull_turn.new.link))
      c.loop-turn.invariant.goes (c.in_ok-pull_turn.was ∙ ap Ok c.in-Gained.is) c.pull_turn.ensures.goes;
  cell = (
    c.pull_turn.ensures.cell.0 ∙ c.loop-turn.invariant.cell.0,
    c.pull_turn.ensures.cell.1
        ∙ c.loop-turn.invariant.cell.1,
  );
}

pub returns-clause-goes : goal.returns-clause-goes
returns-clause-goes g c =
    let w = world c.loop-turn.talk c.loop-turn.pads (g.L.LineExchange.wire c.loop-turn.link) in
    join g.P.Pads.calls g.P.Pads.names _ (world c.args.talk.now c.args.pads.now (g.L.LineExchange.wire c.args.link.now)) _ w
    _ w
    c.loop-turn.invariant.goes (turns_spent g.P.Pads.calls g.P.Pads.names c.args.pad.now c.loop-turn.turn w
    (search rules))

pub returns-clause-cell : goal.returns-clause-cell
returns-clause-cell g c = c.loop-turn.invariant.cell
