use Rattle.std.proofs.Common.{ap, ◌∙◌}
use Rattle.std.specs.List.{list_all}
use Rattle.pad_model.specs.Cell.{character_of}
use Rattle.pad_model.specs.Parts.{part_fits}
use Rattle.block_seq.proofs.Applied.{spans_checked}
use Rattle.block_seq.proofs.Views.{cells_seen}
use Rattle.block_seq.proofs.rows.BlockSeqSequence.fits.Goals as goal

pub parts_fit-requires-clause-checked : goal.parts_fit-requires-clause-checked
parts_fit-requires-clause-checked c = spans_checked c.args._origin c.args.parts.now c.requires.checked

pub returns : goal.returns
returns c =
    c.parts_fit.ensures c.self.inside.authors.items c.self.inside.text.items c.self.invariant.row.within
    ∙ ap (λ l. list_all (part_fits character_of l) c.args.parts.now) (cells_seen c.self.view_is)
