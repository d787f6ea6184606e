use Rattle.pad_core.proofs.Exits.{fails_passed}
use Rattle.std.proofs.Common.{[], subst}
use Rattle.relay.specs.Breaks.{Breaks}
use Rattle.relay.specs.Kept.{Visited, begun, ready}
use Rattle.relay.specs.Round.Stage.{Next}
use Rattle.relay.proofs.Rounds.{greets_then, made_then, misses_then}
use Rattle.relay.proofs.Steps.{later}
use Rattle.relay.proofs.round.make_round.Goals as goal

pub returns-in_err-version-clause-fault : goal.returns-in_err-version-clause-fault
returns-in_err-version-clause-fault g c =
    fails_passed _ c.from_residual.result c.from_residual.ensures.1
    (misses_then g.P.Pads.calls g.P.Pads.names c.args.own c.args.token.now c.in_err-version.field-0.0
    (g.P.Pads.width c.args.pads.now) _ _ _ c.in_err-version.ensures.fault)

pub returns-clause-all : goal.returns-clause-all
returns-clause-all g c =
    made_then g.P.Pads.calls g.P.Pads.names c.args.own c.args.token.now c.in_ok-done.done
    (begun (g.P.Pads.width c.args.pads.now) c.args.pads.now (g.L.LineExchange.wire c.args.link.now))
    (ready c.in_ok-version.version (g.P.Pads.width c.args.pads.now) [] c.args.pads.now (g.L.LineExchange.wire c.greet.new.link))
    _ _
    (greets_then g.P.Pads.calls g.P.Pads.names c.args.own c.args.token.now c.in_ok-version.version
    (g.P.Pads.width c.args.pads.now) _ _ _ c.in_ok-version.ensures.greeted)
    (subst (λ k. Visited g.P.Pads.calls g.P.Pads.names
    (ready c.in_ok-version.version (g.P.Pads.width c.args.pads.now) k c.args.pads.now (g.L.LineExchange.wire c.greet.new.link))
    c.in_ok-done.done (g.L.LineExchange.wire c.visit_cells.new.link) c.visit_cells.new.pads) c.new.ensures c.in_ok-done.ensures.all)

pub returns-in_err-done-clause-fault : goal.returns-in_err-done-clause-fault
returns-in_err-done-clause-fault g c =
    fails_passed _ c.from_residual-in_err-done.result c.from_residual-in_err-done.ensures.1
    (later g.P.Pads.calls g.P.Pads.names c.in_err-done.field-0.0 _
    (begun (g.P.Pads.width c.args.pads.now) c.args.pads.now (g.L.LineExchange.wire c.args.link.now)) _
    (ready c.in_ok-version.version (g.P.Pads.width c.args.pads.now) [] c.args.pads.now (g.L.LineExchange.wire c.greet.new.link))
    _ _
    (greets_then g.P.Pads.calls g.P.Pads.names c.args.own c.args.token.now c.in_ok-version.version
    (g.P.Pads.width c.args.pads.now) _ _ _ c.in_ok-version.ensures.greeted)
    (subst (λ k. Breaks g.P.Pads.calls g.P.Pads.names c.in_err-done.field-0.0 Next
    (ready c.in_ok-version.version (g.P.Pads.width c.args.pads.now) k c.args.pads.now (g.L.LineExchange.wire c.greet.new.link))
    c.visit_cells.new.pads (g.L.LineExchange.wire c.visit_cells.new.link)) c.new.ensures c.in_err-done.ensures.fault))
