use Rattle.std.proofs.Common.{ℕ, ◌∷◌, [], ◌++◌, List, Option, Some, map, sym, ap, ap₂, ◌∙◌, option_copied}
use Rattle.presence.specs.AuthorPlaces.{name_at}
use Rattle.presence.proofs.Authors.{pushed}
use Rattle.presence.proofs.author_list.AuthorList.push.Goals as goal

pub returns-clause-ok : goal.returns-clause-ok
returns-clause-ok c =
    let names = c.self.inside.names.keys in
    let after = c.insert_full.new.self.keys in
    let stored = c.in_ok-place.ensures.stored in
    let place = c.in_ok-place.place in
    let grew = c.push_reserved-2.ensures.items
    ∙ ap (λ (ps : List (Option ℕ)). ps ++ Some place ∷ []) c.reserve.ensures.items in
    ap (map (name_at after)) grew
    ∙ pushed names after c.self.inside.places.items c.in_ok-name.name stored.0 place c.self.invariant.below
    c.in_ok-place.ensures.keys stored.1 stored.2
    ∙ ap₂ (λ (r : List (Option (List ℕ))) (o : Option (List ℕ)). r ++ o ∷ []) c.self.view_is
    (ap (λ (n : List ℕ). Some n) c.in_ok-name.ensures ∙ sym (ap option_copied c.in-Some.is))
