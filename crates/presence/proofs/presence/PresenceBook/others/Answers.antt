use Rattle.std.proofs.Common.{◌≡◌, ◌-◌, length, sym, ap, ◌∙◌, arith}
use Rattle.std.proofs.lemmas.List.{length-map}
use Rattle.presence.specs.Inside.{visits_of}
use Rattle.presence.specs.Presence.{Presence, left}
use Rattle.presence.proofs.Visits.{fewer_where_found, all_where_absent}
use Rattle.presence.proofs.presence.PresenceBook.others.Goals as goal

pub returns-then-contains_key : goal.returns-then-contains_key
returns-then-contains_key c =
    let i = c.self.inside in
    let es = i.visitors.entries in
    let fewer = fewer_where_found i.given c.args.visit es c.self.invariant.numbered
    (sym c.contains_key.ensures ∙ c.if-contains_key.true) in
    let others : c.len.result - 1 ≡ length (left c.args.visit (visits_of es)) =
    omega (arith, fewer, c.len.ensures.len) in
    others ∙ ap (λ (p : Presence). length (left c.args.visit p.present)) c.self.view_is

pub returns-else-contains_key : goal.returns-else-contains_key
returns-else-contains_key c =
    let es = c.self.inside.visitors.entries in
    let all = all_where_absent c.args.visit es (sym c.contains_key.ensures ∙ c.if-contains_key.false) in
    c.len-else-contains_key.ensures.len ∙ sym (ap length all ∙ length-map es _)
    ∙ ap (λ (p : Presence). length (left c.args.visit p.present)) c.self.view_is
