use Rattle.std.proofs.Common.{◌∙◌, ap₂, subst, slice_get}
use Rattle.blocks.specs.Cells.{cells_of}
use Rattle.pad_model.specs.Cell.{cells_at}
use Rattle.pad_model.specs.Views.{IsViewOf}
use Rattle.block_seq.proofs.Views.{cells_seen}
use Rattle.block_seq.proofs.rows.BlockSeqSequence.shown_cell.Goals as goal

pub returns : goal.returns
returns c =
    subst (λ l. IsViewOf c.find_shown.result (slice_get (cells_at c.args.rev l) c.args.place))
    (ap₂ (λ a t. cells_of a t c.self.inside.tree.items) c.as_slice-3.ensures.value c.as_slice-2.ensures.value
    ∙ cells_seen c.self.view_is)
    c.find_shown.ensures
