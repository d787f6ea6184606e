use Rattle.store_format.proofs.Crashes.{left_again}
use Rattle.file_copies.proofs.Logs.{completed_left, completed_part}
use Rattle.standby_laws.proofs.Crashes.{main_restarts, standby_resumes}
use Rattle.standby_laws.proofs.laws.crashes_law.Goals as goal

pub returns : goal.returns
returns c = record {
  main = main_restarts left_again;
  standby = standby_resumes (record { whole = completed_left; again = completed_part });
}
