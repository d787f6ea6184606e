use Rattle.std.proofs.Common.{◌+◌, ap, refl, arith, sym, ◌∙◌, drop_of_length-le}
use Rattle.pad_core.proofs.Exits.{fails_passed}
use Rattle.relay.specs.Round.{is_readable}
use Rattle.relay.specs.Round.Reaches.{here}
use Rattle.relay.proofs.Pushes.{gives_end, gives_more, gives_none, gives_room, gives_unsaid}
use Rattle.relay.proofs.push.give_all.Goals as goal

pub loop-op-init : goal.loop-op-init
loop-op-init g c = record { goes = λ turn pads. here; count = refl; cell = (refl, refl) }

pub returns-then-not-is_readable-clause-gives : goal.returns-then-not-is_readable-clause-gives
returns-then-not-is_readable-clause-gives g c =
    gives_unsaid g.P.Pads.calls g.P.Pads.names c.args.pad.now c.args.ops.now c.args.after.now c.loop-op.after
    c.loop-op.due c.loop-op.op-index c.op-item.result c.args.talk.now c.loop-op.talk _ _ _
    c.loop-op-test.true c.op-item.is (ap (λ b. is_readable c.loop-op.talk.version b) (sym c.op_in_v1.ensures)
    ∙ sym c.is_readable.ensures ∙ c.if-not-is_readable.true)
    (ap (λ r. record { cells = c.loop-op.talk.cells; cell = c.loop-op.talk.cell; version = c.loop-op.talk.version; relayed = r; known = c.loop-op.talk.known }) c.with_unsaid-talk.ensures) c.loop-op.invariant.goes

pub returns-in_err-cover-clause-breaks : goal.returns-in_err-cover-clause-breaks
returns-in_err-cover-clause-breaks g c =
    fails_passed _ c.from_residual.result c.from_residual.ensures.1
    (gives_room g.P.Pads.calls g.P.Pads.names c.args.pad.now c.in_err-cover.field-0.0 c.args.ops.now c.args.after.now
    c.loop-op.after c.loop-op.due c.loop-op.op-index c.args.talk.now c.loop-op.talk _ _
    c.in_err-cover.ensures.memory c.loop-op.invariant.goes)

pub returns-in_err-send_push-clause-breaks : goal.returns-in_err-send_push-clause-breaks
returns-in_err-send_push-clause-breaks g c =
    fails_passed _ c.from_residual-in_err-send_push.result c.from_residual-in_err-send_push.ensures.1
    (gives_none g.P.Pads.calls g.P.Pads.names c.args.pad.now c.in_err-send_push.field-0.0 c.args.ops.now
    c.args.after.now c.loop-op.after c.loop-op.due c.loop-op.op-index c.op-item.result c.args.talk.now c.loop-op.talk _ _ _
    c.loop-op-test.true c.op-item.is (ap (λ b. is_readable c.loop-op.talk.version b) (sym c.op_in_v1.ensures)
    ∙ sym c.is_readable.ensures ∙ c.if-not-is_readable.false)
    c.in_err-send_push.ensures.unsent c.loop-op.invariant.goes)

pub loop-op-preserved : goal.loop-op-preserved
loop-op-preserved g c = record {
  goes = gives_more g.P.Pads.calls g.P.Pads.names c.args.pad.now c.args.ops.now c.args.after.now c.loop-op.after _
      c.loop-op.due c.loop-op.op-index c.op-item.result c.args.talk.now c.loop-op.talk _ _ _
      c.loop-op-test.true c.op-item.is (ap (λ b. is_readable c.loop-op.talk.version b) (sym c.op_in_v1.ensures)
      ∙ sym c.is_readable.ensures ∙ c.if-not-is_readable.false) c.in_ok-cover.ensures.covered
      c.in_ok-send_push.ensures.sent c.loop-op.invariant.goes;
  count = ap (λ n. n + 1) c.loop-op.invariant.count;
  cell = c.loop-op.invariant.cell;
}

pub returns-clause-gives : goal.returns-clause-gives
returns-clause-gives g c =
    gives_end g.P.Pads.calls g.P.Pads.names c.args.pad.now c.args.ops.now c.args.after.now c.loop-op.after
    c.loop-op.due c.loop-op.op-index c.args.talk.now c.loop-op.talk _ _
    (drop_of_length-le c.args.ops.now c.loop-op-test.false) c.loop-op.invariant.goes
