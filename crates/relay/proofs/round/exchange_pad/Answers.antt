use Rattle.std.proofs.Common.{Ok, ap, if◌then◌else◌, sym, ◌∙◌}
use Rattle.pad_core.proofs.Exits.{fails_passed}
use Rattle.relay.specs.Kept.{world}
use Rattle.relay.specs.Round.{known_at}
use Rattle.relay.specs.Round.Reaches.{here}
use Rattle.relay.specs.Round.Stage.{Over, Pushing}
use Rattle.relay.proofs.Rounds.{first_known, first_unknown}
use Rattle.relay.proofs.Steps.{join_at, join_err, join_ok}
use Rattle.relay.proofs.round.exchange_pad.Goals as goal

pub returns-then-is_known-clause-breaks : goal.returns-then-is_known-clause-breaks
returns-then-is_known-clause-breaks g c =
    rw (first_known c.args.pad.now (known_at c.args.talk.now.known c.args.talk.now.cell)
    (sym c.is_known.ensures ∙ c.if-is_known.true))
    c.push_pad.ensures.breaks

pub returns-in_err-pull_pad-clause-breaks : goal.returns-in_err-pull_pad-clause-breaks
returns-in_err-pull_pad-clause-breaks g c =
    rw (first_unknown c.args.pad.now (known_at c.args.talk.now.known c.args.talk.now.cell)
    (sym c.is_known.ensures ∙ c.if-is_known.false))
    (fails_passed _ c.from_residual.result c.from_residual.ensures.1 c.in_err-pull_pad.ensures.breaks)

pub returns-clause-goes : goal.returns-clause-goes
returns-clause-goes g c =
    rw (first_unknown c.args.pad.now (known_at c.args.talk.now.known c.args.talk.now.cell)
    (sym c.is_known.ensures ∙ c.if-is_known.false))
    (join_ok g.P.Pads.calls g.P.Pads.names c.push_pad-2.result (λ done. Over) _
    (world c.args.talk.now c.args.pads.now (g.L.LineExchange.wire c.args.link.now)) (Pushing c.args.pad.now 0)
    (world c.pull_pad.new.talk c.pull_pad.new.pads (g.L.LineExchange.wire c.pull_pad.new.link)) _
    (join_at g.P.Pads.calls g.P.Pads.names c.pull_pad.result _ (λ on. if on then Pushing c.args.pad.now 0 else Over) _
    (world c.args.talk.now c.args.pads.now (g.L.LineExchange.wire c.args.link.now)) _
    (world c.args.talk.now c.args.pads.now (g.L.LineExchange.wire c.args.link.now)) _ here (c.in_ok-pull_pad.was
    ∙ ap Ok c.if-not-branch.false) c.pull_pad.ensures.goes)
    c.push_pad-2.ensures.goes)

pub returns-clause-breaks : goal.returns-clause-breaks
returns-clause-breaks g c =
    rw (first_unknown c.args.pad.now (known_at c.args.talk.now.known c.args.talk.now.cell)
    (sym c.is_known.ensures ∙ c.if-is_known.false))
    (join_err g.P.Pads.calls g.P.Pads.names c.push_pad-2.result _
    (world c.args.talk.now c.args.pads.now (g.L.LineExchange.wire c.args.link.now)) (Pushing c.args.pad.now 0)
    (world c.pull_pad.new.talk c.pull_pad.new.pads (g.L.LineExchange.wire c.pull_pad.new.link)) _ _
    (join_at g.P.Pads.calls g.P.Pads.names c.pull_pad.result _ (λ on. if on then Pushing c.args.pad.now 0 else Over) _
    (world c.args.talk.now c.args.pads.now (g.L.LineExchange.wire c.args.link.now)) _
    (world c.args.talk.now c.args.pads.now (g.L.LineExchange.wire c.args.link.now)) _ here (c.in_ok-pull_pad.was
    ∙ ap Ok c.if-not-branch.false) c.pull_pad.ensures.goes)
    c.push_pad-2.ensures.breaks)
