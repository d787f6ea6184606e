use Rattle.std.proofs.Common.{Some, ap, inl, inr, refl, subst, ◌∙◌}
use Rattle.pad_core.proofs.Exits.{fails_passed}
use Rattle.wire_json.specs.Peers.{peer_answer}
use Rattle.relay.specs.Wire.{HearsAs}
use Rattle.relay.proofs.round.greet.Goals as goal

pub returns-in_err-send_greeting-clause-fault : goal.returns-in_err-send_greeting-clause-fault
returns-in_err-send_greeting-clause-fault g c =
    fails_passed _ c.from_residual.result c.from_residual.ensures.1 (inl c.in_err-send_greeting.ensures.unsent)

pub returns-in_err-version-clause-fault : goal.returns-in_err-version-clause-fault
returns-in_err-version-clause-fault g c =
    fails_passed _ c.from_residual-in_err-version.result c.from_residual-in_err-version.ensures.1
    (inr (g.L.LineExchange.wire c.send_greeting.new.link, c.in_ok-send_greeting.ensures.sent, inl c.in_err-version.ensures.fault))

pub returns-in-Some-Said-clause-greeted : goal.returns-in-Some-Said-clause-greeted
returns-in-Some-Said-clause-greeted g c = (
  g.L.LineExchange.wire c.send_greeting.new.link,
  c.in_ok-send_greeting.ensures.sent,
  subst (λ s. HearsAs peer_answer s (g.L.LineExchange.wire c.send_greeting.new.link) (g.L.LineExchange.wire c.hear_version.new.link))
      (c.in-Some-Said.is ∙ ap Some c.in-Some-Said.field-0-is) c.in_ok-version.ensures.heard,
)

pub returns-in-Some-Refused-clause-fault : goal.returns-in-Some-Refused-clause-fault
returns-in-Some-Refused-clause-fault g c = inr (
  g.L.LineExchange.wire c.send_greeting.new.link,
  c.in_ok-send_greeting.ensures.sent,
  inr (refl, c.in_ok-version.field-0, inl (c.in-Some-Refused.is ∙ ap Some c.in-Some-Refused.field-0-is), c.in_ok-version.ensures.heard),
)

pub returns-in-None-clause-fault : goal.returns-in-None-clause-fault
returns-in-None-clause-fault g c = inr (
  g.L.LineExchange.wire c.send_greeting.new.link,
  c.in_ok-send_greeting.ensures.sent,
  inr (refl, c.in_ok-version.field-0, inr c.in-None.is, c.in_ok-version.ensures.heard),
)
