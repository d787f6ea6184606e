use Rattle.web_wire.proofs.Pieces.{pieces}
use Rattle.web_wire.proofs.laws.pieces_law.Goals as goal

pub returns : goal.returns
returns c = pieces
