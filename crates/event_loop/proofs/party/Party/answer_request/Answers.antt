use Rattle.std.proofs.Common.{rules, ◌≡◌, ◌∷◌, not, false, true≢false, Ok, refl, sym, ap, ◌∙◌}
use denote.Enum.Bare.{sameb}
use Rattle.event_loop.specs.contracts.party.Stage.{the_type}
use Rattle.event_loop.specs.declared.party.Stage.{Stage}
use Rattle.event_loop.specs.declared.party.Stage.TheVariants.{Talks, Ends, Over}
use Rattle.web_wire.specs.declared.page_request.Next.TheVariants.{Close, Socket, User}
use Rattle.event_loop.proofs.Steps.{closed_with, never_opens, tells_or_ends, upgraded, upgrades_or_ends}
use Rattle.event_loop.proofs.party.Party.answer_request.Goals as goal

talking : (stage : Stage) → not (sameb the_type stage Talks) ≡ false → stage ≡ Talks
talking Talks same = refl
talking Ends same = absurd (true≢false same)
talking Over same = absurd (true≢false same)

pub returns-in-Ok-Close-clause-goes : goal.returns-in-Ok-Close-clause-goes
returns-in-Ok-Close-clause-goes g c =
    let talks : c.self.inside.stage ≡ Talks = talking c.self.inside.stage (sym c.ne.ensures ∙ c.if-ne.false) in
    let is : c.answer-answered.result ≡ Ok (Close c.in-Ok-Close.field-0-0) = search rules in
    rw (← c.self.view_is)
    (closed_with _ _ c.close_request.new.self c.in-PageRequest.request c.answer-answered.new.self talks c.in-PageRequest.is refl
    (c.args.kept.now ∷ c.args.site.pages.now) _ _ c.in-Ok-Close.field-0-0
    (λ found. c.answer-answered.ensures.page (is ∙ ap (λ status. Ok (Close status)) found)) c.close_request.ensures)

pub returns-in-Ok-Socket-clause-goes : goal.returns-in-Ok-Socket-clause-goes
returns-in-Ok-Socket-clause-goes g c =
    let talks : c.self.inside.stage ≡ Talks = talking c.self.inside.stage (sym c.ne.ensures ∙ c.if-ne.false) in
    let is : c.answer-answered.result ≡ Ok Socket = search rules in
    rw (← c.self.view_is)
    (upgrades_or_ends _ _ c.upgrade.new.self c.in-PageRequest.request c.answer-answered.new.self talks c.in-PageRequest.is refl
    _ _ _ _ (c.answer-answered.ensures.socket is).1 c.upgrade.result c.upgrade.ensures)

pub returns-in-Ok-Socket-clause-socket : goal.returns-in-Ok-Socket-clause-socket
returns-in-Ok-Socket-clause-socket g c opens =
    let talks : c.self.inside.stage ≡ Talks = talking c.self.inside.stage (sym c.ne.ensures ∙ c.if-ne.false) in
    let is : c.answer-answered.result ≡ Ok Socket = search rules in
    rw (← c.self.view_is)
    (upgraded _ _ c.upgrade.new.self c.in-PageRequest.request c.answer-answered.new.self talks c.in-PageRequest.is refl
    _ _ _ _ (c.answer-answered.ensures.socket is).1 c.upgrade.result c.upgrade.ensures opens)

pub returns-in-Ok-User-clause-goes : goal.returns-in-Ok-User-clause-goes
returns-in-Ok-User-clause-goes g c =
    let talks : c.self.inside.stage ≡ Talks = talking c.self.inside.stage (sym c.ne.ensures ∙ c.if-ne.false) in
    let is : c.answer-answered.result ≡ Ok User = search rules in
    rw (← c.self.view_is)
    (tells_or_ends _ _ c.tell_user.new.self c.in-PageRequest.request c.answer-answered.new.self talks c.in-PageRequest.is refl
    _ _ _ _ (c.answer-answered.ensures.user is) c.tell_user.result c.tell_user.ensures)

pub returns-in-Ok-User-clause-socket : goal.returns-in-Ok-User-clause-socket
returns-in-Ok-User-clause-socket g c opens =
    let talks : c.self.inside.stage ≡ Talks = talking c.self.inside.stage (sym c.ne.ensures ∙ c.if-ne.false) in
    absurd (never_opens _ _ c.tell_user.new.self c.in-PageRequest.request c.answer-answered.new.self talks c.in-PageRequest.is refl
    _ _ c.tell_user.result c.tell_user.ensures opens)
