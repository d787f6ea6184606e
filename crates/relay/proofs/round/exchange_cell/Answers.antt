use Rattle.std.proofs.Common.{Ok, ap, ◌∙◌}
use Rattle.pad_core.proofs.Exits.{fails_passed}
use Rattle.relay.specs.Kept.{world}
use Rattle.relay.specs.Round.Stage.{Over}
use Rattle.relay.proofs.Rounds.{looked_none, looked_pad, looked_past}
use Rattle.relay.proofs.Steps.{join_err, join_ok}
use Rattle.relay.proofs.round.exchange_cell.Goals as goal

pub returns-in-Some-clause-goes : goal.returns-in-Some-clause-goes
returns-in-Some-clause-goes g c =
    join_ok g.P.Pads.calls g.P.Pads.names c.exchange_pad.result (λ done. Over) _
    (world c.args.talk.now c.args.pads.now (g.L.LineExchange.wire c.args.link.now)) _
    (world c.args.talk.now c.name_of.new.self (g.L.LineExchange.wire c.args.link.now))
    (world c.exchange_pad.new.talk c.exchange_pad.new.pads (g.L.LineExchange.wire c.exchange_pad.new.link))
    (looked_pad g.P.Pads.calls g.P.Pads.names c.args.talk.now _ _ _ _ c.name_in.result c.in-Some.pad c.requires
    c.name_of.ensures c.name_in.ensures.name (c.in_ok-pad.was ∙ ap Ok c.in-Some.is))
    c.exchange_pad.ensures.goes

pub returns-in-Some-clause-breaks : goal.returns-in-Some-clause-breaks
returns-in-Some-clause-breaks g c =
    join_err g.P.Pads.calls g.P.Pads.names c.exchange_pad.result _
    (world c.args.talk.now c.args.pads.now (g.L.LineExchange.wire c.args.link.now)) _
    (world c.args.talk.now c.name_of.new.self (g.L.LineExchange.wire c.args.link.now)) _ _
    (looked_pad g.P.Pads.calls g.P.Pads.names c.args.talk.now _ _ _ _ c.name_in.result c.in-Some.pad c.requires
    c.name_of.ensures c.name_in.ensures.name (c.in_ok-pad.was ∙ ap Ok c.in-Some.is))
    c.exchange_pad.ensures.breaks

pub returns-in-None-clause-goes : goal.returns-in-None-clause-goes
returns-in-None-clause-goes g c =
    looked_past g.P.Pads.calls g.P.Pads.names c.args.talk.now _ _ _ _ c.name_in.result c.requires c.name_of.ensures
    c.name_in.ensures.name (c.in_ok-pad.was ∙ ap Ok c.in-None.is)

pub returns-in_err-pad-clause-breaks : goal.returns-in_err-pad-clause-breaks
returns-in_err-pad-clause-breaks g c =
    fails_passed _ c.from_residual.result c.from_residual.ensures.1
    (looked_none g.P.Pads.calls g.P.Pads.names c.args.talk.now _ _ _ _ c.name_in.result c.in_err-pad.field-0.0
    c.requires c.name_of.ensures c.name_in.ensures.name c.in_err-pad.was c.in_err-pad.ensures.memory)
