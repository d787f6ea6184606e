use Rattle.std.proofs.Common.{ap, ◌∙◌}
use Rattle.pad_model.specs.Cell.{clock_of}
use Rattle.pad_model.specs.History.{clock_of_characters}
use Rattle.pad_model.specs.Operation.{characters_in}
use Rattle.pad_model.proofs.Growth.{IsTree-history}
use Rattle.pad_model.proofs.Local.{clock_of-cells_of}
use Rattle.pad_core.proofs.ledger.Ledger.clock.Goals as goal

pub returns : goal.returns
returns g c =
    c.clock.ensures ∙ ap clock_of c.self.invariant.kept
    ∙ clock_of-cells_of c.self.inside.log.operations
    (IsTree-history c.self.inside.log.operations c.self.invariant.delivered.history)
    ∙ ap (λ log. clock_of_characters (characters_in log).inserted) c.self.view_is
