use Rattle.std.proofs.Common.{ap, ◌∙◌, subst, slice_get}
use Rattle.pad_model.specs.Cell.{cells_at}
use Rattle.pad_model.specs.History.{cells_of}
use Rattle.pad_model.specs.Views.{IsViewOf}
use Rattle.pad_core.proofs.ledger.Ledger.shown_cell.Goals as goal

pub returns : goal.returns
returns g c =
    subst (λ l. IsViewOf c.shown_cell.result (slice_get (cells_at c.args.rev l) c.args.place))
    (c.self.invariant.kept ∙ ap cells_of c.self.view_is)
    c.shown_cell.ensures
