use Rattle.file_copies.proofs.Copies.{left_of_all}
use Rattle.file_copies.proofs.laws.copy_crash_law.Goals as goal

pub returns : goal.returns
returns c texts count disk bytes some few written synced may =
    left_of_all texts count disk bytes some few written synced may
