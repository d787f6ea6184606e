use Rattle.std.proofs.Common.{arith, refl, subst, sym}
use Rattle.pad_core.proofs.Exits.{fails_passed}
use Rattle.relay.specs.Counts.{none_yet}
use Rattle.relay.specs.Kept.{ready, world}
use Rattle.relay.specs.Round.{Reaches}
use Rattle.relay.specs.Round.Reaches.{here}
use Rattle.relay.specs.Round.Stage.{Next}
use Rattle.relay.proofs.Rounds.{ends, past_one}
use Rattle.relay.proofs.Steps.{later}
use Rattle.relay.proofs.round.visit_cells.Goals as goal

pub loop-talk-init : goal.loop-talk-init
loop-talk-init g c = record {
  goes = subst (λ r. Reaches g.P.Pads.calls g.P.Pads.names Next
      (ready c.args.version (g.P.Pads.width c.args.pads.now) c.args.known c.args.pads.now (g.L.LineExchange.wire c.args.link.now)) Next
      (record { cells = c.cells.result; cell = 0; version = c.args.version; relayed = r; known = c.args.known; pads = c.args.pads.now; wire = g.L.LineExchange.wire c.args.link.now })) (sym c.new.ensures)
      (subst (λ n. Reaches g.P.Pads.calls g.P.Pads.names Next
      (ready c.args.version (g.P.Pads.width c.args.pads.now) c.args.known c.args.pads.now (g.L.LineExchange.wire c.args.link.now)) Next
      (record { cells = n; cell = 0; version = c.args.version; relayed = none_yet; known = c.args.known; pads = c.args.pads.now; wire = g.L.LineExchange.wire c.args.link.now })) (sym c.cells.ensures) here);
  fits = omega (arith, c.cells.type_inv);
}

pub overflow_add-talk : goal.overflow_add-talk
overflow_add-talk g c = omega (
  arith,
  c.loop-talk-test.true,
  c.exchange_cell.ensures.cell.0,
  c.exchange_cell.ensures.cell.1,
  c.loop-talk.invariant.fits,
)

pub loop-talk-preserved : goal.loop-talk-preserved
loop-talk-preserved g c = record {
  goes = past_one g.P.Pads.calls g.P.Pads.names _
      (ready c.args.version (g.P.Pads.width c.args.pads.now) c.args.known c.args.pads.now (g.L.LineExchange.wire c.args.link.now))
      c.loop-talk.talk c.exchange_cell.new.talk _ _ _ _ _ c.loop-talk.invariant.goes
      c.in_ok-exchange_cell.ensures.goes refl;
  fits = omega (arith, c.exchange_cell.ensures.cell.1, c.loop-talk.invariant.fits);
}

pub returns-in_err-exchange_cell-clause-fault : goal.returns-in_err-exchange_cell-clause-fault
returns-in_err-exchange_cell-clause-fault g c =
    fails_passed _ c.from_residual.result c.from_residual.ensures.1
    (later g.P.Pads.calls g.P.Pads.names c.in_err-exchange_cell.field-0.0 _
    (ready c.args.version (g.P.Pads.width c.args.pads.now) c.args.known c.args.pads.now (g.L.LineExchange.wire c.args.link.now)) _
    (world c.loop-talk.talk c.loop-talk.pads (g.L.LineExchange.wire c.loop-talk.link)) _ _ c.loop-talk.invariant.goes
    c.in_err-exchange_cell.ensures.breaks)

pub returns-clause-all : goal.returns-clause-all
returns-clause-all g c = (
  world c.loop-talk.talk c.loop-talk.pads (g.L.LineExchange.wire c.loop-talk.link),
  ends g.P.Pads.calls g.P.Pads.names Next
      (ready c.args.version (g.P.Pads.width c.args.pads.now) c.args.known c.args.pads.now (g.L.LineExchange.wire c.args.link.now))
      c.loop-talk.talk c.loop-talk.pads (g.L.LineExchange.wire c.loop-talk.link) c.loop-talk.invariant.goes
      c.loop-talk-test.false,
  refl,
  refl,
  refl,
  refl,
)
