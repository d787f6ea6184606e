use Rattle.std.proofs.Common.{Ok, ap, ◌∙◌}
use Rattle.pad_core.proofs.Exits.{fails_passed}
use Rattle.relay.proofs.Pulls.{asked_sent, asked_unsent, asked_over, asked_none}
use Rattle.relay.proofs.pull.ask_peer.Goals as goal

pub returns-in-Some-clause-goes : goal.returns-in-Some-clause-goes
returns-in-Some-clause-goes g c = asked_sent g.P.Pads.calls g.P.Pads.names _ _ _ _ _ _ _ _ _ _ (c.in_ok-seen.was
    ∙ ap Ok c.in-Some.is) c.own_vector.ensures.asks c.send_pull.ensures.sent

pub returns-in-Some-clause-breaks : goal.returns-in-Some-clause-breaks
returns-in-Some-clause-breaks g c = asked_unsent g.P.Pads.calls g.P.Pads.names _ _ _ _ _ _ _ _ _ _ (c.in_ok-seen.was
    ∙ ap Ok c.in-Some.is) c.own_vector.ensures.asks c.send_pull.ensures.unsent

pub returns-in-None-clause-goes : goal.returns-in-None-clause-goes
returns-in-None-clause-goes g c = asked_over g.P.Pads.calls g.P.Pads.names _ _ _ _ _ _ (c.in_ok-seen.was
    ∙ ap Ok c.in-None.is) c.own_vector.ensures.asks

pub returns-in_err-seen-clause-breaks : goal.returns-in_err-seen-clause-breaks
returns-in_err-seen-clause-breaks g c =
    fails_passed _ c.from_residual.result c.from_residual.ensures.1
    (asked_none g.P.Pads.calls g.P.Pads.names _ _ _ _ _ _ _ c.in_err-seen.was c.in_err-seen.ensures.memory
    c.own_vector.ensures.asks)
