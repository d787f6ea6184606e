use Rattle.store_records.proofs.Steps.{leave_again}
use Rattle.store_records.proofs.laws.departures_law.Goals as goal

pub returns : goal.returns
returns c name who visit m = leave_again name who visit m
