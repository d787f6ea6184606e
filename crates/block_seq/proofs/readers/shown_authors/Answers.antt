use Rattle.std.proofs.Common.{arith}
use Rattle.std.proofs.lemmas.Grind.{common_steps}
use Rattle.block_seq.proofs.readers.shown_authors.Goals as goal

pub offset_bounds-authors-cell : goal.offset_bounds-authors-cell
offset_bounds-authors-cell c = grind (arith, common_steps)

pub bounds-authors-cell : goal.bounds-authors-cell
bounds-authors-cell c = grind (arith, common_steps)
