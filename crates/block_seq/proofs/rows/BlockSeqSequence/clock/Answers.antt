use Rattle.std.proofs.Common.{sym, ap, ◌∙◌}
use Rattle.pad_model.specs.Cell.{clock_of}
use Rattle.block_seq.proofs.Views.{cells_seen}
use Rattle.block_seq.proofs.rows.BlockSeqSequence.clock.Goals as goal

pub returns : goal.returns
returns c = sym c.self.invariant.row.newest ∙ ap clock_of (cells_seen c.self.view_is)
