use Rattle.std.proofs.Common.{ap, ◌∙◌}
use Rattle.comments.specs.Comments.{is_comment}
use Rattle.comments.proofs.Sorted.{found_or_none}
use Rattle.comments.proofs.book.CommentBook.has.Goals as goal

pub returns : goal.returns
returns c =
    c.is_some.ensures ∙ found_or_none c.as_slice.result.now c.args.name c.find.result c.find.ensures.found
    c.find.ensures.none
    ∙ ap (is_comment c.args.name) (c.as_slice.ensures.value ∙ c.self.view_is)
