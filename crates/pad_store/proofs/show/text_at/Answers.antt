use Rattle.pad_store.proofs.Readings.{if_ok, shows_of}
use Rattle.pad_store.proofs.show.text_at.Goals as goal

pub returns-in-Ok-clause-shown : goal.returns-in-Ok-clause-shown
returns-in-Ok-clause-shown c =
    shows_of _ _ _ _ _ _ _ (if_ok _ _ _ c.in_ok-rev.was c.number_of.ensures.told)
    (if_ok _ _ _ c.in_ok-rev.was c.number_of.ensures.kept) (if_ok _ _ _ c.in_ok-text.was c.text.ensures.told)
    (if_ok _ _ _ c.in-Ok.is c.to_string.ensures)
