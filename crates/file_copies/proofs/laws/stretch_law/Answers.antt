use Rattle.file_copies.proofs.Stretches.{lines_linked, stretch_texts}
use Rattle.file_copies.proofs.laws.stretch_law.Goals as goal

pub returns : goal.returns
returns c = record { texts = stretch_texts; lines = lines_linked }
