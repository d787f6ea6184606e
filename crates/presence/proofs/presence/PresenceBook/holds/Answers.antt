use Rattle.std.proofs.Common.{◌≡◌, rules, ap, sym, ◌∙◌, option_copied, bytes_eq}
use Rattle.std.proofs.lemmas.Slice.Eq.{bytes_eq-Decides}
use Rattle.presence.specs.Presence.{Presence, is_joined_by}
use Rattle.presence.proofs.Visits.{author_where_found, nobody_where_absent}
use Rattle.presence.proofs.presence.PresenceBook.holds.Goals as goal

pub returns-in-Some : goal.returns-in-Some
returns-in-Some c =
    let i = c.self.inside in
    let at = sym c.get.ensures.value ∙ ap option_copied c.in-Some.is in
    let same : c.is.result ≡ bytes_eq c.in-Some.visitor.now.author c.args.author.now =
    search (rules, bytes_eq-Decides) in
    same ∙ sym (author_where_found c.args.author.now i.given c.args.visit i.visitors.entries c.in-Some.visitor.now
    c.self.invariant.numbered at)
    ∙ ap (λ (p : Presence). is_joined_by c.args.visit c.args.author.now p.present) c.self.view_is

pub returns-in-None : goal.returns-in-None
returns-in-None c =
    let at = sym c.get.ensures.value ∙ ap option_copied c.in-None.is in
    sym (nobody_where_absent c.args.author.now c.args.visit c.self.inside.visitors.entries at)
    ∙ ap (λ (p : Presence). is_joined_by c.args.visit c.args.author.now p.present) c.self.view_is
