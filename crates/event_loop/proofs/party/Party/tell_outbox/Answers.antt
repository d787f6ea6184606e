use Rattle.std.proofs.Common.{rules, ◌≡◌, ap, ◌∙◌, subst, drop, length, take, ◌-◌, List, ℕ, ◌++◌}
use Rattle.std.specs.Io.KnownBytes.{Appends}
use Rattle.event_loop.specs.Party.{Board}
use Rattle.event_loop.specs.declared.party.Stage.TheVariants.{Over}
use Rattle.event_loop.proofs.Said.{behind}
use Rattle.event_loop.proofs.Steps.{told_by}
use Rattle.event_loop.proofs.party.Party.tell_outbox.Goals as goal

pub returns : goal.returns
returns g c =
    let same : c.deref.result.now ≡ c.self.inside.outbox.bytes.items = search rules in
    rw (← c.self.view_is)
    (subst (λ tale. (out rest : List ℕ)
    × Appends (g.K.ByteSocket.written c.self.inside.socket) c.stop.new.self.written out × (tale ≡ out ++ rest)
    × (c.stop.new.self.stage ≡ Over) × (c.stop.new.self.unread ≡ g.K.ByteSocket.unread c.self.inside.socket))
    (behind c.deref.result.now c.self.inside.outbox.sent ∙ ap (drop c.self.inside.outbox.sent) same)
    (told_by (take (length c.deref.result.now - c.self.inside.outbox.sent)
    (drop c.self.inside.outbox.sent c.deref.result.now)) c.send-told.result _ _ _ _ c.stop.new.self
    c.send-told.ensures.keeps c.send-told.ensures.takes
    (ap (λ (b : Board). b.unread) c.stop.ensures, ap (λ (b : Board). b.written) c.stop.ensures)
    (ap (λ (b : Board). b.stage) c.stop.ensures)))
