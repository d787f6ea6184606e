use Rattle.pad_store.proofs.Readings.{begins, faultless, of_ok}
use Rattle.pad_store.proofs.inspected_pad.InspectedPad.read.Goals as goal

pub returns-in-Ok-load_pad : goal.returns-in-Ok-load_pad
returns-in-Ok-load_pad c = begins _ _ _ _ (of_ok _ _ _ _ c.in-Ok-load_pad.is c.load_pad.ensures) c.begin.ensures

pub returns-in-Err : goal.returns-in-Err
returns-in-Err c = faultless _ _ tt
