use Rattle.std.proofs.Common.{sym}
use Rattle.pad_model.specs.Cell.{character_of}
use Rattle.pad_model.specs.Laws.{itself}
use Rattle.pad_model.proofs.Maps.{order-map}
use Rattle.pad_model.proofs.laws.cell_order_law.Goals as goal

pub returns : goal.returns
returns c = λ cells. sym (order-map character_of itself cells)
