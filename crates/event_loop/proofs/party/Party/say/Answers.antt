use Rattle.std.proofs.Common.{rules, ◌≡◌, ◌≢◌, refl}
use Rattle.event_loop.specs.declared.party.Stage.TheVariants.{Over}
use Rattle.event_loop.proofs.Steps.{says_or_stays}
use Rattle.event_loop.proofs.party.Party.say.Goals as goal

pub returns-clause-goes : goal.returns-clause-goes
returns-clause-goes g c =
    let going : c.self.inside.stage ≢ Over = search rules in
    rw (← c.self.view_is)
    (says_or_stays _ c.self.inside.outbox.sent c.self.inside.outbox.bytes.items c.say.new.output.items
    c.in-Socket.field-0 c.say.new.conversation c.say.result going c.in-Socket.is refl c.self.invariant.0
    c.say.ensures.only c.say.ensures.said c.say.ensures.other)
