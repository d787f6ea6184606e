use Rattle.std.proofs.Common.{sym, ap, length, ◌∙◌}
use Rattle.pad_model.specs.Cell.{cells_at}
use Rattle.block_seq.proofs.RowReads.{length-at}
use Rattle.block_seq.proofs.Views.{cells_seen}
use Rattle.block_seq.proofs.rows.BlockSeqSequence.len_at.Goals as goal

pub returns : goal.returns
returns c =
    c.count_visible.ensures ∙ sym (length-at c.args.rev c.self.inside.authors.items c.self.inside.text.items
    c.self.inside.tree.items c.self.invariant.row.within)
    ∙ ap (λ l. length (cells_at c.args.rev l)) (cells_seen c.self.view_is)
