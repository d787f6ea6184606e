use Rattle.file_copies.proofs.Logs.{completed_left, completed_part}
use Rattle.file_copies.proofs.laws.log_law.Goals as goal

pub returns : goal.returns
returns c = record { whole = completed_left; again = completed_part }
