use Rattle.std.proofs.Common.{ap, ◌∙◌}
use Rattle.pad_model.specs.Cell.{character_of}
use Rattle.pad_model.specs.Legal.{has_stamp}
use Rattle.block_seq.proofs.Views.{cells_seen}
use Rattle.block_seq.proofs.rows.BlockSeqSequence.has.Goals as goal

pub returns : goal.returns
returns c =
    c.has_character.ensures c.self.inside.authors.items c.self.inside.text.items c.self.invariant.row.within
    ∙ ap (λ l. has_stamp character_of l c.args.stamp) (cells_seen c.self.view_is)
