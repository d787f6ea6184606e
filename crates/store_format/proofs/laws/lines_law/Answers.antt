use Rattle.std.proofs.Common.{[]}
use Rattle.store_format.proofs.Fronts.{front, text_found}
use Rattle.store_format.proofs.laws.lines_law.Goals as goal

pub returns : goal.returns
returns c = record { front = λ texts left plain. front [] texts left plain; text = text_found }
