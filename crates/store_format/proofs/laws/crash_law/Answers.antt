use Rattle.store_format.proofs.Crashes.{left_again}
use Rattle.store_format.proofs.laws.crash_law.Goals as goal

pub returns : goal.returns
returns c replica present name entries m texts disk bytes life file says written may =
    left_again replica present name entries m texts disk bytes life file says written may
