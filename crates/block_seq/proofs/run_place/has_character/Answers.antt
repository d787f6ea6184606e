use Rattle.std.proofs.Common.{◌∙◌}
use Rattle.block_seq.proofs.BlockCells.{located_has}
use Rattle.block_seq.proofs.run_place.has_character.Goals as goal

pub returns : goal.returns
returns c = λ authors text w.
    c.is_some.ensures ∙ located_has authors text c.args.index.now c.args.tree.now.items c.args.stamp c.locate.result
    c.requires.listed w c.locate.ensures.place
