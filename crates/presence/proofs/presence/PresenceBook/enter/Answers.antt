use Rattle.std.proofs.Common.{◌+◌, ap, sym, ◌∙◌, refl, ◌∷◌, ◌++◌, []}
use Rattle.presence.specs.Presence.{Presence}
use Rattle.presence.specs.Inside.{visit_of, visits_of}
use Rattle.presence.specs.declared.presence.Visitor.{Visitor}
use Rattle.presence.proofs.Authors.{one_more}
use Rattle.presence.proofs.Visits.{seated, seated_numbered, enter_done}
use Rattle.presence.proofs.presence.PresenceBook.enter.Goals as goal

pub invariant_of-self-2 : goal.invariant_of-self-2
invariant_of-self-2 c =
    let i = c.self.inside in
    let number = c.in_ok-number.ensures.number in
    let next = number.1 ∙ sym (ap (λ (p : Presence). p.given + 1) c.self.view_is) in
    let last = seated c.make_room.new.visitors c.insert.new.self.entries i.visitors.entries i.given
    c.in_ok-number.number c.in_ok-visitor.visitor c.make_room.ensures.visitors c.self.invariant.numbered next
    c.in_ok-insert.ensures.entries in
    record {
      numbered = seated_numbered i.given _ _ _ _ c.self.invariant.numbered next refl last;
      spent = number.2;
      counted = one_more i.authors _ _ i.given _ c.in_ok-visitor.ensures.ok.1 c.self.invariant.counted next;
    }

pub returns-clause-ok : goal.returns-clause-ok
returns-clause-ok c =
    let i = c.self.inside in
    let vs = visits_of i.visitors.entries in
    let number = c.in_ok-number.ensures.number in
    let next = number.1 ∙ sym (ap (λ (p : Presence). p.given + 1) c.self.view_is) in
    let last = seated c.make_room.new.visitors c.insert.new.self.entries i.visitors.entries i.given
    c.in_ok-number.number c.in_ok-visitor.visitor c.make_room.ensures.visitors c.self.invariant.numbered next
    c.in_ok-insert.ensures.entries in
    let named = ap (λ (w : Visitor). vs ++ visit_of c.in_ok-number.number w ∷ []) c.in_ok-visitor.ensures.ok.0 in (
      number.0,
      number.1,
      enter_done c.args.author.now i.limit i.given _ vs _ i.authors _ c.args.self.now c.self.view_is next (last ∙ named)
          c.in_ok-visitor.ensures.ok.1,
    )
