use Rattle.pad_store.proofs.Readings.{faults, of_ok, shows}
use Rattle.pad_store.proofs.show.show.Goals as goal

pub returns-in-Ok-clause-shown : goal.returns-in-Ok-clause-shown
returns-in-Ok-clause-shown c =
    shows _ _ _ _ _ _ (of_ok _ _ _ _ c.in-Ok.is c.read.ensures) c.text_at.ensures.shown

pub returns-in-Ok-clause-fault : goal.returns-in-Ok-clause-fault
returns-in-Ok-clause-fault c = faults _ _ c.text_at.ensures.fault
