use Rattle.std.proofs.Common.{◌≡◌, false, ◌++◌, ◌∷◌, [], refl, sym, ap, ap₂, ◌∙◌, subst}
use Rattle.std.specs.List.{AllByRecursion, IsDistinct}
use Rattle.pad_model.specs.Visible.{same_author}
use Rattle.pad_model.specs.declared.who.Author.{Author}
use Rattle.block_seq.proofs.AuthorTable.{distinct_push}
use Rattle.block_seq.proofs.authors.place_author.Goals as goal

pub returns-clause-once : goal.returns-clause-once
returns-clause-once c = λ d.
    let known = c.args.authors.now.items in
    let parts = c.in_ok-clone.ensures.cases in
    let copied : c.in_ok-clone.field-0 ≡ c.args.author.now =
    ap₂ (λ name origin. let it : Author = record { name = name; origin = origin } in it) parts.0 parts.1 in
    subst (IsDistinct same_author)
    (sym (c.in_ok-push.ensures.items ∙ ap (λ (a : Author). known ++ a ∷ []) copied))
    (distinct_push same_author known c.args.author.now d
    (subst (AllByRecursion (λ (a : Author). same_author a c.args.author.now ≡ false)) c.as_slice.ensures.value
    (c.in_default.ensures.missing refl)))
