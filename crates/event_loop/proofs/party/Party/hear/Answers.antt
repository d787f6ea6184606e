use Rattle.std.proofs.Common.{rules, ◌≡◌, refl}
use Rattle.event_loop.specs.declared.party.Stage.TheVariants.{Talks}
use Rattle.event_loop.proofs.Steps.{hears_next}
use Rattle.event_loop.proofs.party.Party.hear.Goals as goal

pub returns-else-is_err : goal.returns-else-is_err
returns-else-is_err g c =
    let talks : c.self.inside.stage ≡ Talks = search rules in
    rw (← c.self.view_is)
    (hears_next _ c.self.inside.outbox.sent c.self.inside.outbox.bytes.items c.hear-heard.new.output.items
    c.in-Socket.frames c.hear-heard.new.frames c.hear-heard.new.conversation talks c.in-Socket.is refl c.self.invariant.0
    c.hear-heard.result _ _ (search rules) c.hear-heard.ensures.line c.hear-heard.ensures.none c.hear-heard.ensures.end
    c.hear-heard.ensures.other)
