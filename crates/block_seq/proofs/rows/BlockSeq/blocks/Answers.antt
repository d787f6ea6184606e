use Rattle.block_seq.proofs.Views.{cells_seen}
use Rattle.block_seq.proofs.rows.BlockSeq.blocks.Goals as goal

pub returns-clause-row : goal.returns-clause-row
returns-clause-row c = (
  c.self.inside.index,
  c.self.inside.tree.items,
  record { authors = c.self.inside.authors.items; text = c.self.inside.text.items; kept = c.self.invariant.row.kept; within = c.self.invariant.row.within; same = (cells_seen c.self.view_is) },
  c.len.ensures.len,
)
