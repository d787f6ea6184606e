use Rattle.std.proofs.Common.{sym, ap, ◌∙◌}
use Rattle.pad_model.specs.Cell.{cell_stamp_at}
use Rattle.block_seq.proofs.RowReads.{stamp-at}
use Rattle.block_seq.proofs.Views.{cells_seen}
use Rattle.block_seq.proofs.rows.BlockSeqSequence.stamp_at.Goals as goal

pub returns : goal.returns
returns c =
    c.find_visible.ensures ∙ sym (stamp-at c.args.rev c.self.inside.authors.items c.self.inside.text.items
    c.self.inside.tree.items c.args.place c.self.invariant.row.within)
    ∙ ap (λ l. cell_stamp_at c.args.rev l c.args.place) (cells_seen c.self.view_is)
