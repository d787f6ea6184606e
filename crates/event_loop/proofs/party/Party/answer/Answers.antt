use Rattle.std.proofs.Common.{rules, ◌≡◌, false}
use Rattle.event_loop.specs.declared.party.Stage.TheVariants.{Talks}
use Rattle.event_loop.proofs.Steps.{answers_or_stays}
use Rattle.event_loop.proofs.party.Party.answer.Goals as goal

pub returns-clause-goes : goal.returns-clause-goes
returns-clause-goes g c =
    let talks : c.self.inside.stage ≡ Talks = search rules in
    let uncut : c.self.inside.conversation.cut ≡ false = search rules in
    rw (← c.self.view_is)
    (answers_or_stays _ c.answer.new.conversation c.answer.new.session c.args.pads.now c.answer.new.self c.answer.result _ _
    talks uncut c.answer.ensures.answered c.answer.ensures.long c.answer.ensures.waits c.answer.ensures.full
    c.answer.ensures.err)
