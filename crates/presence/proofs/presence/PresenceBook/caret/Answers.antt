use Rattle.std.proofs.Common.{is_some, ap, sym, subst, ◌∙◌, List}
use Rattle.std.specs.Option.{option_copied_mut}
use Rattle.presence.specs.Presence.{AreNumbered, with_caret}
use Rattle.presence.specs.Inside.{visits_of}
use Rattle.presence.specs.declared.presence.Visit.{Visit}
use Rattle.presence.proofs.Visits.{present_where_found, caret_entries, caret_numbered, done, refused}
use Rattle.presence.proofs.presence.PresenceBook.caret.Goals as goal

pub returns-in_default : goal.returns-in_default
returns-in_default c =
    let es = c.self.inside.visitors.entries in
    let absent = present_where_found c.args.visit es ∙ sym (ap is_some c.get_mut.ensures.value)
    ∙ ap (λ r. is_some (option_copied_mut r)) c.in_default.is in
    refused c.args.visit c.self.inside.limit c.self.inside.given (visits_of es) _ c.self.inside.authors (with_caret c.args.caret) _ c.self.view_is absent
    (ap (λ m. visits_of m.entries) c.get_mut.follows.holds-at-none)

pub invariant_of-self-2 : goal.invariant_of-self-2
invariant_of-self-2 c =
    let i = c.self.invariant in
    let es = c.self.inside.visitors.entries in
    let wrote = c.get_mut.follows.holds (record { author = c.in-Some.visitor.now.author; caret = c.args.caret }) in
    let at = sym c.get_mut.ensures.value ∙ ap option_copied_mut c.in-Some.is in
    let kept = ap visits_of wrote.0 ∙ caret_entries c.args.caret c.self.inside.given c.args.visit es
    c.in-Some.visitor.now i.numbered at in
    record {
      numbered = subst (λ (vs : List Visit). AreNumbered c.self.inside.given vs) (sym kept)
          (caret_numbered c.args.caret c.self.inside.given c.args.visit _ i.numbered);
      spent = i.spent;
      counted = i.counted;
    }

pub returns : goal.returns
returns c =
    let es = c.self.inside.visitors.entries in
    let wrote = c.get_mut.follows.holds (record { author = c.in-Some.visitor.now.author; caret = c.args.caret }) in
    let at = sym c.get_mut.ensures.value ∙ ap option_copied_mut c.in-Some.is in
    let kept = ap visits_of wrote.0 ∙ caret_entries c.args.caret c.self.inside.given c.args.visit es
    c.in-Some.visitor.now c.self.invariant.numbered at in
    done c.args.visit c.self.inside.limit c.self.inside.given (visits_of es) _ c.self.inside.authors (with_caret c.args.caret) _ c.self.view_is
    (present_where_found c.args.visit es ∙ ap is_some at) kept
