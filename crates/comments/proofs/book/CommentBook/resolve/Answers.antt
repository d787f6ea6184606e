use Rattle.std.proofs.Common.{◌≡◌, true, set, refl, sym, ap, ◌∙◌, subst}
use Rattle.comments.specs.Comments.{IsBook, is_comment, resolved_at, with_resolution}
use Rattle.comments.proofs.Sorted.{not_found, resolved_there, book-with_resolution}
use Rattle.comments.proofs.book.CommentBook.resolve.Goals as goal

pub returns-in_default-clause-err : goal.returns-in_default-clause-err
returns-in_default-clause-err c = (
  refl,
  ap (is_comment c.args.name) (sym (c.as_slice.ensures.value ∙ c.self.view_is))
      ∙ not_found c.as_slice.result.now c.args.name c.in_default.ensures.none,
  refl,
)

done : (c : goal.After-self-1) → (is_comment c.args.name c.self.inside.comments.items ≡ true)
    × (set c.self.inside.comments.items c.in-Some.place (resolved_at c.args.rev c.index_mut-comment.result.now)
    ≡ with_resolution c.args.name c.args.rev c.self.inside.comments.items)
done c =
    resolved_there c.self.inside.comments.items c.args.name c.args.rev c.in-Some.place c.index_mut-comment.result.now
    c.self.invariant.by_name (rw c.as_slice.ensures.value at c.in-Some.ensures.found)
    c.index_mut-comment.ensures.value

pub invariant_of-self : goal.invariant_of-self
invariant_of-self c = rw c.earlier.ensures
    (subst IsBook (sym (done c).1) (book-with_resolution c.self.inside.comments.items c.args.name c.args.rev
    c.self.invariant))

pub returns-clause-ok : goal.returns-clause-ok
returns-clause-ok c = (
  ap (is_comment c.args.name) (sym c.self.view_is) ∙ (done c).0,
  rw c.earlier.ensures ((done c).1 ∙ ap (with_resolution c.args.name c.args.rev) c.self.view_is),
)
