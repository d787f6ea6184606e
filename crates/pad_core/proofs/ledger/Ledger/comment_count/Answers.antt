use Rattle.std.proofs.Common.{ap, ◌∙◌, length, count_by}
use Rattle.pad_model.specs.Log.{is_comment}
use Rattle.pad_core.proofs.Booked.{length-book_of}
use Rattle.pad_core.proofs.ledger.Ledger.comment_count.Goals as goal

-- src/ledger.rt:158:5
pub returns : goal.returns
returns g c = c.len.ensures.value ∙ ap length c.self.invariant.commented
    ∙ length-book_of c.self.inside.log.operations c.self.invariant.delivered
    ∙ ap (λ log. count_by is_comment log) c.self.view_is
