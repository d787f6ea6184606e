use Rattle.std.proofs.Common.{Ok, ap, ◌∙◌}
use Rattle.relay.specs.Kept.{after_turn, world}
use Rattle.relay.proofs.Pulls.{turn_asked}
use Rattle.relay.proofs.Steps.{join_err, join_ok}
use Rattle.relay.proofs.pull.pull_turn.Goals as goal

pub returns-clause-goes : goal.returns-clause-goes
returns-clause-goes g c =
    join_ok g.P.Pads.calls g.P.Pads.names c.take_answer.result (after_turn c.args.pad.now c.args.turn) _
    (world c.args.talk.now c.args.pads.now (g.L.LineExchange.wire c.args.link.now)) _
    (world c.ask_peer.new.talk c.ask_peer.new.pads (g.L.LineExchange.wire c.ask_peer.new.link))
    (world c.take_answer.new.talk c.take_answer.new.pads (g.L.LineExchange.wire c.take_answer.new.link))
    (turn_asked g.P.Pads.calls g.P.Pads.names c.args.pad.now c.args.turn c.ask_peer.result _ _ _ (c.in_ok-ask_peer.was
    ∙ ap Ok c.if-not-branch.false) c.requires c.ask_peer.ensures.goes)
    c.take_answer.ensures.goes

pub returns-clause-breaks : goal.returns-clause-breaks
returns-clause-breaks g c =
    join_err g.P.Pads.calls g.P.Pads.names c.take_answer.result _
    (world c.args.talk.now c.args.pads.now (g.L.LineExchange.wire c.args.link.now)) _
    (world c.ask_peer.new.talk c.ask_peer.new.pads (g.L.LineExchange.wire c.ask_peer.new.link)) _ _
    (turn_asked g.P.Pads.calls g.P.Pads.names c.args.pad.now c.args.turn c.ask_peer.result _ _ _ (c.in_ok-ask_peer.was
    ∙ ap Ok c.if-not-branch.false) c.requires c.ask_peer.ensures.goes)
    c.take_answer.ensures.breaks

pub returns-then-not-branch-clause-goes : goal.returns-then-not-branch-clause-goes
returns-then-not-branch-clause-goes g c =
    turn_asked g.P.Pads.calls g.P.Pads.names c.args.pad.now c.args.turn c.ask_peer.result _ _ _ (c.in_ok-ask_peer.was
    ∙ ap Ok c.if-not-branch.true) c.requires c.ask_peer.ensures.goes
