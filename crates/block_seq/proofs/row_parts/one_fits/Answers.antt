use Rattle.std.proofs.Common.{ap, ◌∙◌}
use Rattle.pad_model.specs.Cell.{character_of}
use Rattle.pad_model.specs.Log.{has_spans}
use Rattle.blocks.specs.Cells.{cells_of}
use Rattle.block_seq.proofs.row_parts.one_fits.Goals as goal

pub returns-in-Delete : goal.returns-in-Delete
returns-in-Delete c = λ authors text w.
    rw c.in-Delete.is (c.has_spans.ensures authors text w
    ∙ ap (has_spans character_of (cells_of authors text c.args.tree.now.items)) c.as_slice.ensures)
