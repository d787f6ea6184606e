use Rattle.std.proofs.Common.{ap, ◌∙◌}
use Rattle.pad_core.specs.Notes.{has_comment as is_commented}
use Rattle.comments.specs.Comments as book
use Rattle.pad_core.proofs.Booked.{named_in_book}
use Rattle.pad_core.proofs.ledger.Ledger.has_comment.Goals as goal

-- src/ledger.rt:151:5
pub returns : goal.returns
returns g c = c.has.ensures ∙ ap (book.is_comment c.args.name) c.self.invariant.commented
    ∙ named_in_book c.self.inside.log.operations c.args.name ∙ ap (λ log. is_commented c.args.name log) c.self.view_is
