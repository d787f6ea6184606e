use Rattle.std.proofs.Common.{rules, ◌≡◌, ap, sym, subst, ◌∙◌, ℕ, List}
use Rattle.indexmap.proofs.CallerLemmas.{filter-RetainsPairs}
use Rattle.rights.specs.Rights.{may}
use Rattle.rights.specs.declared.right.Right.TheVariants.{Own}
use Rattle.presence.specs.Inside.{visits_of}
use Rattle.presence.specs.Presence.{AreNumbered, Presence, is_by_owner, owners_alone}
use Rattle.presence.specs.declared.presence.Visit.{Visit}
use Rattle.presence.specs.declared.presence.Visitor.{Visitor}
use Rattle.presence.proofs.Visits.{kept_numbered, owners_entries}
use Rattle.presence.proofs.presence.PresenceBook.keep_owners.Goals as goal

pub invariant_of-self : goal.invariant_of-self
invariant_of-self c =
    let rights = c.args.rights.now in
    let kept = filter-RetainsPairs _ (λ (e : ℕ × Visitor). may rights e.1.author Own) _
    (λ k v b w g call. search rules) _ _ c.retain.ensures.filtered in
    record {
      numbered = subst (λ (vs : List Visit). AreNumbered c.self.inside.given vs)
          (sym (ap visits_of kept ∙ owners_entries rights c.self.inside.visitors.entries))
          (kept_numbered (is_by_owner rights) c.self.inside.given _ c.self.invariant.numbered);
      spent = c.self.invariant.spent;
      counted = c.self.invariant.counted;
    }

pub returns : goal.returns
returns c =
    let rights = c.args.rights.now in
    let kept = filter-RetainsPairs _ (λ (e : ℕ × Visitor). may rights e.1.author Own) _
    (λ k v b w g call. search rules) _ _ c.retain.ensures.filtered in
    let with_visits : List Visit → Presence = λ vs. record {
      limit = c.self.inside.limit;
      given = c.self.inside.given;
      present = vs;
      authors = c.self.inside.authors;
    } in
    subst (λ (p : Presence). with_visits (visits_of c.retain.new.self.entries) ≡ owners_alone rights p) c.self.view_is
    (ap with_visits (ap visits_of kept ∙ owners_entries rights c.self.inside.visitors.entries))
