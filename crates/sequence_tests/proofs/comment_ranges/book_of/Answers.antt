use Rattle.std.proofs.Common.{◌≡◌, [], sym, ap, ◌∙◌, subst}
use Rattle.comments.specs.Comments.{AreHeld, born_by, with_comment}
use Rattle.comments.proofs.CallerLemmas.{held-with_comment, held-with_resolution}
use Rattle.sequence_tests.proofs.comment_ranges.book_of.Goals.{in-Some+in_ok-resolve, in_default}
use Rattle.sequence_tests.proofs.comment_ranges.book_of.Goals as goal

pub returns : goal.returns
returns c cells rev there =
    let noted : AreHeld cells (born_by rev c.add.new.self) =
    subst (λ book. AreHeld cells (born_by rev book))
    (sym (c.in_ok-add.ensures.ok ∙ ap (with_comment _) c.new-book.ensures)) (held-with_comment cells rev [] _ tt there)
    in
    elim c.match-draft.branch [
      | in-Some+in_ok-resolve w ↦ subst (λ book. AreHeld cells (born_by rev book))
          (sym (w.book-is ∙ w.in_ok-resolve.ensures.ok.1)) (held-with_resolution cells _ _ rev c.add.new.self noted)
      | in_default w ↦ subst (λ book. AreHeld cells (born_by rev book)) (sym w.book-is) noted
    ]
