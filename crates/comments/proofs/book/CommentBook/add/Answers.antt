use Rattle.std.proofs.Common.{length, ap, ◌∙◌, arith}
use Rattle.std.proofs.lemmas.List.Sums.{prefix_len-le-length}
use Rattle.comments.specs.Comments.{is_comment}
use Rattle.pad_model.specs.Log.{precedes}
use Rattle.comments.proofs.Sorted.{book-with_comment}
use Rattle.comments.proofs.book.CommentBook.add.Goals as goal

pub insert-requires : goal.insert-requires
insert-requires c =
    let place = rw c.as_slice.ensures.value at c.place_of-place.ensures in
    omega (
      arith,
      prefix_len-le-length (λ comment. precedes comment.name c.args.given.name)
          c.self.inside.comments.items,
    )

pub invariant_of-self-2 : goal.invariant_of-self-2
invariant_of-self-2 c =
    let place = rw c.as_slice.ensures.value at c.place_of-place.ensures in
    rw (c.in_ok-insert.ensures.items, place) (book-with_comment c.self.inside.comments.items _ c.self.invariant
    (ap (is_comment c.args.given.name) c.self.view_is ∙ c.requires) (omega (arith, ap length c.self.view_is)))
