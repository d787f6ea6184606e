use Rattle.std.proofs.Common.{ap, ◌∙◌}
use Rattle.pad_model.specs.Cell.{last_of}
use Rattle.block_seq.proofs.BlockCells.{greatest_held}
use Rattle.block_seq.proofs.Views.{cells_seen}
use Rattle.block_seq.proofs.rows.BlockSeqSequence.last_of.Goals as goal

pub returns : goal.returns
returns c =
    greatest_held c.self.inside.authors.items c.self.inside.text.items c.self.inside.index c.self.inside.tree.items
    c.args.replica c.last_of.result c.self.invariant.row.kept.listed c.self.invariant.row.within c.last_of.ensures.bound
    c.last_of.ensures.there
    ∙ ap (last_of c.args.replica) (cells_seen c.self.view_is)
