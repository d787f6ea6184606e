use Rattle.std.proofs.Common.{◌+◌, ◌-◌, refl, arith, ◌∙◌}
use Rattle.pad_core.proofs.Exits.{fails_passed}
use Rattle.relay.specs.Round.Reaches.{here}
use Rattle.relay.proofs.Pushes.{hears_begin, hears_end, hears_more, hears_none}
use Rattle.relay.proofs.push.hear_all.Goals as goal

pub loop-init : goal.loop-init
loop-init g c = record {
  goes = hears_begin g.P.Pads.calls g.P.Pads.names c.args.due (c.args.due - 0) c.args.talk.now _ (omega arith);
  cell = (refl, refl);
}

pub returns-in_err-told-clause-breaks : goal.returns-in_err-told-clause-breaks
returns-in_err-told-clause-breaks g c =
    fails_passed _ c.from_residual.result c.from_residual.ensures.1
    (hears_none g.P.Pads.calls g.P.Pads.names c.in_err-told.field-0.0 c.args.due c.loop.counter
    (c.args.due - (c.loop.counter + 1)) c.loop.gained c.loop.all c.args.talk.now c.loop.talk _ _ _
    (omega (arith, c.loop-test.true)) c.in_err-told.ensures.fault c.loop.invariant.goes)

pub loop-preserved : goal.loop-preserved
loop-preserved g c = record {
  goes = rw (c.is_delivered-gained.ensures, c.is_had-all.ensures)
      (hears_more g.P.Pads.calls g.P.Pads.names c.args.due c.loop.counter (c.args.due - (c.loop.counter + 1)) c.loop.gained
      c.loop.all c.hear_told.result c.in_ok-told.told c.args.talk.now c.loop.talk _ _ _ _
      (omega (arith, c.loop-test.true)) c.in_ok-told.was c.hear_told.ensures.heard c.loop.invariant.goes);
  cell = (
    c.hear_told.ensures.cell.0 ∙ c.loop.invariant.cell.0,
    c.hear_told.ensures.cell.1 ∙ c.loop.invariant.cell.1,
  );
}

pub returns-clause-hears : goal.returns-clause-hears
returns-clause-hears g c =
    hears_end g.P.Pads.calls g.P.Pads.names c.args.due (c.args.due - c.loop.counter) c.loop.gained c.loop.all
    c.args.talk.now c.loop.talk _ _ (omega (arith, c.loop-test.false)) c.loop.invariant.goes
