use Rattle.pad_store.proofs.Readings.{damaged, leads, of_err, of_ok}
use Rattle.pad_store.proofs.inspected_pad.load_pad.Goals as goal

pub returns-in-Ok : goal.returns-in-Ok
returns-in-Ok c = leads _ _ _ (of_ok _ _ _ _ c.in-Ok.is c.load.ensures.read)

pub returns-in-Err : goal.returns-in-Err
returns-in-Err c = rw c.of_damage.ensures (damaged _ _ _ (of_err _ _ _ _ c.in-Err.is c.load.ensures.read))
