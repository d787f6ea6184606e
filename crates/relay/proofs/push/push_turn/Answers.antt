use Rattle.std.proofs.Common.{Some, ap, sym, ◌∙◌}
use Rattle.pad_core.proofs.Exits.{fails_passed}
use Rattle.relay.specs.Kept.{world}
use Rattle.wire_lines.specs.declared.fault.Fault.TheVariants.{PeerReply}
use Rattle.relay.proofs.Pushes.{begins_known, counted_over, counted_then, counted_wrong, turn_broken, turn_pushed}
use Rattle.relay.proofs.Pushes.{vector_sent, vector_unsent}
use Rattle.relay.proofs.Steps.{join, later, unheard}
use Rattle.relay.proofs.push.push_turn.Goals as goal

pub returns-in-Some-clause-goes : goal.returns-in-Some-clause-goes
returns-in-Some-clause-goes g c =
    turn_pushed g.P.Pads.calls g.P.Pads.names c.args.pad.now c.args.turn c.in-Some.seen c.push_lacking.result
    (world c.args.talk.now c.args.pads.now (g.L.LineExchange.wire c.args.link.now)) _ _
    (begins_known g.P.Pads.calls g.P.Pads.names c.args.pad.now c.args.turn c.in-Some.seen c.args.talk.now _ _ _ c.requires
    (sym c.take_known.ensures.seen ∙ c.in-Some.is) c.in-Some.ensures.some)
    c.push_lacking.ensures.goes

pub returns-in-Some-clause-breaks : goal.returns-in-Some-clause-breaks
returns-in-Some-clause-breaks g c =
    turn_broken g.P.Pads.calls g.P.Pads.names c.args.pad.now c.args.turn c.in-Some.seen c.push_lacking.result
    (world c.args.talk.now c.args.pads.now (g.L.LineExchange.wire c.args.link.now)) _ _ _
    (begins_known g.P.Pads.calls g.P.Pads.names c.args.pad.now c.args.turn c.in-Some.seen c.args.talk.now _ _ _ c.requires
    (sym c.take_known.ensures.seen ∙ c.in-Some.is) c.in-Some.ensures.some)
    c.push_lacking.ensures.breaks

pub returns-in_err-send_vector-clause-breaks : goal.returns-in_err-send_vector-clause-breaks
returns-in_err-send_vector-clause-breaks g c =
    fails_passed _ c.from_residual.result c.from_residual.ensures.1
    (vector_unsent g.P.Pads.calls g.P.Pads.names c.args.pad.now c.args.turn c.in_err-send_vector.field-0.0
    c.args.talk.now _ _ _ c.requires (sym c.take_known.ensures.seen ∙ c.in_default.is) c.in_err-send_vector.ensures.unsent)

pub returns-in_err-seen-clause-breaks : goal.returns-in_err-seen-clause-breaks
returns-in_err-seen-clause-breaks g c =
    fails_passed _ c.from_residual-in_err-seen.result c.from_residual-in_err-seen.ensures.1
    (later g.P.Pads.calls g.P.Pads.names _ _ (world c.args.talk.now c.args.pads.now (g.L.LineExchange.wire c.args.link.now)) _ _ _ _
    (vector_sent g.P.Pads.calls g.P.Pads.names c.args.pad.now c.args.turn c.args.talk.now _ _ _ _ c.requires
    (sym c.take_known.ensures.seen ∙ c.in_default.is) c.in_default.ensures.none c.in_ok-send_vector.ensures.sent)
    (unheard g.P.Pads.calls g.P.Pads.names c.in_err-seen.field-0.0 _ _ _ c.in_err-seen.ensures.fault))

pub returns-in-Some-Said-clause-goes : goal.returns-in-Some-Said-clause-goes
returns-in-Some-Said-clause-goes g c =
    turn_pushed g.P.Pads.calls g.P.Pads.names c.args.pad.now c.args.turn c.in-Some-Said.seen
    c.push_lacking-in-Some-Said.result (world c.args.talk.now c.args.pads.now (g.L.LineExchange.wire c.args.link.now)) _ _
    (join g.P.Pads.calls g.P.Pads.names _ (world c.args.talk.now c.args.pads.now (g.L.LineExchange.wire c.args.link.now)) _ _ _ _
    (vector_sent g.P.Pads.calls g.P.Pads.names c.args.pad.now c.args.turn c.args.talk.now _ _ _ _ c.requires
    (sym c.take_known.ensures.seen ∙ c.in_default.is) c.in_default.ensures.none c.in_ok-send_vector.ensures.sent)
    (counted_then g.P.Pads.calls g.P.Pads.names _ _ c.in_ok-seen.field-0 c.in-Some-Said.seen c.take_known.new.self _ _ _
    (c.in-Some-Said.is ∙ ap Some c.in-Some-Said.field-0-is) c.in_ok-seen.ensures.heard))
    c.push_lacking-in-Some-Said.ensures.goes

pub returns-in-Some-Said-clause-breaks : goal.returns-in-Some-Said-clause-breaks
returns-in-Some-Said-clause-breaks g c =
    turn_broken g.P.Pads.calls g.P.Pads.names c.args.pad.now c.args.turn c.in-Some-Said.seen
    c.push_lacking-in-Some-Said.result (world c.args.talk.now c.args.pads.now (g.L.LineExchange.wire c.args.link.now)) _ _ _
    (join g.P.Pads.calls g.P.Pads.names _ (world c.args.talk.now c.args.pads.now (g.L.LineExchange.wire c.args.link.now)) _ _ _ _
    (vector_sent g.P.Pads.calls g.P.Pads.names c.args.pad.now c.args.turn c.args.talk.now _ _ _ _ c.requires
    (sym c.take_known.ensures.seen ∙ c.in_default.is) c.in_default.ensures.none c.in_ok-send_vector.ensures.sent)
    (counted_then g.P.Pads.calls g.P.Pads.names _ _ c.in_ok-seen.field-0 c.in-Some-Said.seen c.take_known.new.self _ _ _
    (c.in-Some-Said.is ∙ ap Some c.in-Some-Said.field-0-is) c.in_ok-seen.ensures.heard))
    c.push_lacking-in-Some-Said.ensures.breaks

pub returns-in-Some-Refused-clause-goes : goal.returns-in-Some-Refused-clause-goes
returns-in-Some-Refused-clause-goes g c =
    join g.P.Pads.calls g.P.Pads.names _ (world c.args.talk.now c.args.pads.now (g.L.LineExchange.wire c.args.link.now)) _ _ _ _
    (vector_sent g.P.Pads.calls g.P.Pads.names c.args.pad.now c.args.turn c.args.talk.now _ _ _ _ c.requires
    (sym c.take_known.ensures.seen ∙ c.in_default.is) c.in_default.ensures.none c.in_ok-send_vector.ensures.sent)
    (counted_over g.P.Pads.calls g.P.Pads.names _ _ c.in_ok-seen.field-0 c.take_known.new.self _ _ _ (c.in-Some-Refused.is
    ∙ ap Some c.in-Some-Refused.field-0-is) c.in_ok-seen.ensures.heard)

pub returns-in-None-clause-breaks : goal.returns-in-None-clause-breaks
returns-in-None-clause-breaks g c =
    later g.P.Pads.calls g.P.Pads.names PeerReply _ (world c.args.talk.now c.args.pads.now (g.L.LineExchange.wire c.args.link.now)) _
    (world c.take_known.new.self c.args.pads.now (g.L.LineExchange.wire c.send_vector.new.link)) _
    (g.L.LineExchange.wire c.hear_vector.new.link)
    (vector_sent g.P.Pads.calls g.P.Pads.names c.args.pad.now c.args.turn c.args.talk.now _ _ _ _ c.requires
    (sym c.take_known.ensures.seen ∙ c.in_default.is) c.in_default.ensures.none c.in_ok-send_vector.ensures.sent)
    (counted_wrong g.P.Pads.calls g.P.Pads.names _ _ c.in_ok-seen.field-0 c.take_known.new.self _ _
    (g.L.LineExchange.wire c.hear_vector.new.link) c.in-None.is c.in_ok-seen.ensures.heard)
