use Rattle.std.proofs.Common.{◌+◌, ap, sym, subst, ◌∙◌, refl, List, ◌∷◌, ◌++◌, [], nat_eq}
use Rattle.std.specs.Map.{remove_entry}
use Rattle.presence.specs.Presence.{Presence, AreNumbered, left, without}
use Rattle.presence.specs.Inside.{visit_of, visits_of}
use Rattle.presence.specs.declared.presence.Visit.{Visit}
use Rattle.presence.specs.declared.presence.Visitor.{Visitor}
use Rattle.presence.proofs.Authors.{one_more}
use Rattle.presence.proofs.Visits.{seated, seated_numbered, enter_done, left_entries, left_numbered}
use Rattle.presence.proofs.presence.PresenceBook.rejoin.Goals as goal

pub invariant_of-self-2 : goal.invariant_of-self-2
invariant_of-self-2 c =
    let i = c.self.inside in
    let es = i.visitors.entries in
    let number = c.in_ok-number.ensures.number in
    let next = number.1 ∙ sym (ap (λ (p : Presence). p.given + 1) c.self.view_is) in
    let gone = left_entries i.given c.args.instead es c.self.invariant.numbered in
    let stay = subst (λ (vs : List Visit). AreNumbered i.given vs) (sym gone)
    (left_numbered i.given c.args.instead (visits_of es) c.self.invariant.numbered) in
    let kept = c.shift_remove-ended.ensures.entries
    ∙ ap (remove_entry (nat_eq c.args.instead)) c.make_room.ensures.visitors in
    let last = seated c.shift_remove-ended.new.self c.insert.new.self.entries _ i.given c.in_ok-number.number
    c.in_ok-visitor.visitor kept stay next c.in_ok-insert.ensures.entries in
    record {
      numbered = seated_numbered i.given _ _ _ _ stay next refl last;
      spent = number.2;
      counted = one_more i.authors _ _ i.given _ c.in_ok-visitor.ensures.ok.1 c.self.invariant.counted next;
    }

pub returns-clause-ok : goal.returns-clause-ok
returns-clause-ok c =
    let i = c.self.inside in
    let es = i.visitors.entries in
    let number = c.in_ok-number.ensures.number in
    let next = number.1 ∙ sym (ap (λ (p : Presence). p.given + 1) c.self.view_is) in
    let gone = left_entries i.given c.args.instead es c.self.invariant.numbered in
    let stay = subst (λ (vs : List Visit). AreNumbered i.given vs) (sym gone)
    (left_numbered i.given c.args.instead (visits_of es) c.self.invariant.numbered) in
    let kept = c.shift_remove-ended.ensures.entries
    ∙ ap (remove_entry (nat_eq c.args.instead)) c.make_room.ensures.visitors in
    let last = seated c.shift_remove-ended.new.self c.insert.new.self.entries _ i.given c.in_ok-number.number
    c.in_ok-visitor.visitor kept stay next c.in_ok-insert.ensures.entries in
    let others = left c.args.instead (visits_of es) in
    let named = ap (λ (vs : List Visit). vs ++ visit_of c.in_ok-number.number c.in_ok-visitor.visitor ∷ []) gone
    ∙ ap (λ (w : Visitor). others ++ visit_of c.in_ok-number.number w ∷ []) c.in_ok-visitor.ensures.ok.0 in (
      number.0,
      number.1,
      enter_done c.args.author.now i.limit i.given _ others _ i.authors _ (without c.args.instead c.args.self.now)
          (ap (without c.args.instead) c.self.view_is) next (last ∙ named) c.in_ok-visitor.ensures.ok.1,
    )
