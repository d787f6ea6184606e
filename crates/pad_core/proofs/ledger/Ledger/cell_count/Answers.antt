use Rattle.std.proofs.Common.{ap, ◌∙◌, length}
use Rattle.pad_model.specs.Operation.{characters_in}
use Rattle.pad_core.proofs.Judged.{length-ledger}
use Rattle.pad_core.proofs.ledger.Ledger.cell_count.Goals as goal

pub returns : goal.returns
returns g c =
    c.cell_count.ensures.value ∙ length-ledger c.self.inside.log.operations c.self.inside.seen
    (g.S.Sequence.cells c.self.inside.sequence) c.self.inside.comments c.self.invariant
    ∙ ap (λ log. length (characters_in log).inserted) c.self.view_is
