use Rattle.file_copies.proofs.Copies.{first_lines, front, grown}
use Rattle.file_copies.proofs.laws.copy_law.Goals as goal

pub returns : goal.returns
returns c = record { front = front; grown = grown; lines = first_lines }
