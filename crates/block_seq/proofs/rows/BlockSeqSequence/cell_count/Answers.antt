use Rattle.std.proofs.Common.{sym, ap, length, subst, ◌∙◌}
use Rattle.pad_model.specs.Cell.{IsInOrder}
use Rattle.block_seq.proofs.BlockCells.{length-cells}
use Rattle.block_seq.proofs.Views.{cells_seen}
use Rattle.block_seq.proofs.rows.BlockSeqSequence.cell_count.Goals as goal

pub returns-clause-value : goal.returns-clause-value
returns-clause-value c =
    c.len.ensures ∙ c.self.inside.text.ok.0 ∙ c.self.invariant.row.full
    ∙ sym (length-cells c.self.inside.authors.items c.self.inside.text.items c.self.inside.tree.items
    c.self.invariant.row.within) ∙ ap length (cells_seen c.self.view_is)

pub returns-clause-order : goal.returns-clause-order
returns-clause-order c = subst IsInOrder (cells_seen c.self.view_is) c.self.invariant.row.order
