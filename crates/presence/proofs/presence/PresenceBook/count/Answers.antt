use Rattle.std.proofs.Common.{◌+◌, ap, sym, subst, ◌∙◌}
use Rattle.presence.specs.Inside.{visits_of}
use Rattle.presence.specs.Presence.{Presence, AreNumbered}
use Rattle.presence.proofs.Authors.{one_more}
use Rattle.presence.proofs.Visits.{more_numbered}
use Rattle.presence.proofs.presence.PresenceBook.count.Goals as goal

pub invariant_of-self-2 : goal.invariant_of-self-2
invariant_of-self-2 c =
    let i = c.self.inside in
    let vs = visits_of i.visitors.entries in
    let number = c.in_ok-number.ensures.number in
    let next = number.1 ∙ sym (ap (λ (p : Presence). p.given + 1) c.self.view_is) in
    record {
      numbered = subst (λ n. AreNumbered n vs) (sym next) (more_numbered i.given vs c.self.invariant.numbered);
      spent = number.2;
      counted = one_more i.authors c.push.new.self _ i.given _ c.in_ok-push.ensures.ok c.self.invariant.counted next;
    }
