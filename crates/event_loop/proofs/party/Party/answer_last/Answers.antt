use Rattle.std.proofs.Common.{rules, ◌≡◌, false}
use Rattle.event_loop.specs.declared.party.Stage.TheVariants.{Talks}
use Rattle.event_loop.proofs.Steps.{ends_or_stays}
use Rattle.event_loop.proofs.party.Party.answer_last.Goals as goal

pub returns-clause-goes : goal.returns-clause-goes
returns-clause-goes g c =
    let talks : c.self.inside.stage ≡ Talks = search rules in
    let uncut : c.self.inside.conversation.cut ≡ false = search rules in
    rw (← c.self.view_is)
    (ends_or_stays _ c.answer_last.new.conversation c.answer_last.new.session c.args.pads.now c.answer_last.new.self
    c.in_ok-told.told talks uncut c.in_ok-told.ensures.last c.in_ok-told.ensures.none)
