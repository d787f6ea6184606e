use Rattle.std.proofs.Common.{flat_map}
use Rattle.pad_model.specs.Pieces.{piece_of}
use Rattle.pad_model.proofs.Pieces.{apart-fewest, full-changes}
use Rattle.pad_model.proofs.laws.fewest_law.Goals as goal

pub returns : goal.returns
returns c = λ rev to cells. (full-changes rev to cells, apart-fewest (flat_map (piece_of rev to) cells))
