use Rattle.std.proofs.Common.{is_some, ap, sym, subst, ◌∙◌, List}
use Rattle.presence.specs.Presence.{AreNumbered, left}
use Rattle.presence.specs.Inside.{visits_of}
use Rattle.presence.specs.declared.presence.Visit.{Visit}
use Rattle.presence.proofs.Visits.{present_where_found, left_entries, left_numbered, done, refused}
use Rattle.presence.proofs.presence.PresenceBook.leave.Goals as goal

pub returns-in_default : goal.returns-in_default
returns-in_default c =
    let es = c.self.inside.visitors.entries in
    let absent = present_where_found c.args.visit es ∙ sym (ap is_some c.shift_remove.ensures.value)
    ∙ ap is_some c.in_default.is in
    refused c.args.visit c.self.inside.limit c.self.inside.given (visits_of es) _ c.self.inside.authors left _ c.self.view_is absent
    (ap visits_of c.in_default.ensures.unchanged)

pub invariant_of-self-2 : goal.invariant_of-self-2
invariant_of-self-2 c =
    let i = c.self.invariant in
    let left = ap visits_of c.shift_remove.ensures.entries
    ∙ left_entries c.self.inside.given c.args.visit c.self.inside.visitors.entries i.numbered in
    record {
      numbered = subst (λ (vs : List Visit). AreNumbered c.self.inside.given vs) (sym left)
          (left_numbered c.self.inside.given c.args.visit _ i.numbered);
      spent = i.spent;
      counted = i.counted;
    }

pub returns : goal.returns
returns c =
    let es = c.self.inside.visitors.entries in
    let there = present_where_found c.args.visit es ∙ sym (ap is_some c.shift_remove.ensures.value)
    ∙ ap is_some c.in-Some.is in
    let gone = ap visits_of c.shift_remove.ensures.entries
    ∙ left_entries c.self.inside.given c.args.visit es c.self.invariant.numbered in
    done c.args.visit c.self.inside.limit c.self.inside.given (visits_of es) _ c.self.inside.authors left _ c.self.view_is there gone
