use Rattle.std.proofs.Common.{refl, Ok, false, sym, subst, ap, ◌∙◌}
use Rattle.pad_core.proofs.Exits.{fails_passed}
use Rattle.relay.specs.Kept.{world}
use Rattle.relay.specs.Round.{Reaches}
use Rattle.relay.specs.Round.Stage.{Taking}
use Rattle.relay.specs.Round.Reaches.{here}
use Rattle.relay.proofs.Pulls.{takes_end, takes_more, takes_none}
use Rattle.relay.proofs.pull.take_ops.Goals as goal

pub loop-op-init : goal.loop-op-init
loop-op-init g c = record {
  goes = λ turn wire. subst (λ l. Reaches g.P.Pads.calls g.P.Pads.names (Taking c.args.pad.now turn false c.args.ops)
      (world c.args.talk.now c.args.pads.now wire) (Taking c.args.pad.now turn false l)
      (world c.args.talk.now c.args.pads.now wire))
      (sym (c.into_iter-op-iterator.ensures.into_iter_gives.0 ∙ c.into_vec-op-items.ensures)) here;
  cell = (refl, refl);
}

pub loop-op-preserved-then-gained : goal.loop-op-preserved-then-gained
loop-op-preserved-then-gained g c = record {
  goes = takes_more g.P.Pads.calls g.P.Pads.names _ c.in-Some.op _ _ _ c.loop-op.gained _ c.deliver.result _
      c.args.talk.now c.loop-op.talk _ _ _ _ c.in-Some.ensures.steps.0
      (c.in_ok-count.was ∙ ap Ok c.in-Some-2.is) c.deliver.ensures.asks (rw c.if-gained.true refl)
      (ap (λ r. record { cells = c.loop-op.talk.cells; cell = c.loop-op.talk.cell; version = c.loop-op.talk.version; relayed = r; known = c.loop-op.talk.known }) c.with_pulled-talk.ensures) c.loop-op.invariant.goes;
  cell = c.loop-op.invariant.cell;
}

pub loop-op-preserved-else-gained : goal.loop-op-preserved-else-gained
loop-op-preserved-else-gained g c = record {
  goes = takes_more g.P.Pads.calls g.P.Pads.names _ c.in-Some.op _ _ _ c.loop-op.gained _ c.deliver.result _
      c.args.talk.now c.loop-op.talk _ _ _ _ c.in-Some.ensures.steps.0
      (c.in_ok-count.was ∙ ap Ok c.in-Some-2.is) c.deliver.ensures.asks (rw c.if-gained.false refl)
      (ap (λ r. record { cells = c.loop-op.talk.cells; cell = c.loop-op.talk.cell; version = c.loop-op.talk.version; relayed = r; known = c.loop-op.talk.known }) c.with_pulled-talk.ensures) c.loop-op.invariant.goes;
  cell = c.loop-op.invariant.cell;
}

pub loop-op-preserved : goal.loop-op-preserved
loop-op-preserved g c = record {
  goes = takes_more g.P.Pads.calls g.P.Pads.names _ c.in-Some.op _ _ _ c.loop-op.gained _ c.deliver.result _
      c.args.talk.now c.loop-op.talk _ _ _ _ c.in-Some.ensures.steps.0
      (c.in_ok-count.was ∙ ap Ok c.in-None-2.is) c.deliver.ensures.asks refl
      (ap (λ r. record { cells = c.loop-op.talk.cells; cell = c.loop-op.talk.cell; version = c.loop-op.talk.version; relayed = r; known = c.loop-op.talk.known }) c.with_refused-talk.ensures) c.loop-op.invariant.goes;
  cell = c.loop-op.invariant.cell;
}

pub returns-in_err-count-clause-lacks : goal.returns-in_err-count-clause-lacks
returns-in_err-count-clause-lacks g c =
    fails_passed _ c.from_residual.result c.from_residual.ensures.1
    (takes_none g.P.Pads.calls g.P.Pads.names _ c.in-Some.op _ _ _ c.loop-op.gained c.deliver.result
    c.in_err-count.field-0.0 _ _ _ _ _ c.in-Some.ensures.steps.0 c.in_err-count.was c.in_err-count.ensures.memory
    c.deliver.ensures.asks c.loop-op.invariant.goes)

pub returns-in_err-count-clause-cell : goal.returns-in_err-count-clause-cell
returns-in_err-count-clause-cell g c = c.loop-op.invariant.cell

pub returns-clause-goes : goal.returns-clause-goes
returns-clause-goes g c =
    takes_end g.P.Pads.calls g.P.Pads.names _ _ c.loop-op.op-iterator.rest.items _ _ _ _ _
    (sym c.loop-op.op-iterator.rest.ok.0 ∙ c.in-None.ensures.steps.0) c.loop-op.invariant.goes

pub returns-clause-cell : goal.returns-clause-cell
returns-clause-cell g c = c.loop-op.invariant.cell
