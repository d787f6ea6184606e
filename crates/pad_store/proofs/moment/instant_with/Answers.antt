use Rattle.std.proofs.Common.{◌∙◌, refl}
use Rattle.std.proofs.lemmas.Bool.{false≢true}
use Rattle.pad_store.proofs.Moments.{found, not_found, same_nanos}
use Rattle.pad_store.proofs.moment.instant_with.Goals as goal

pub returns-in-Ok : goal.returns-in-Ok
returns-in-Ok c =
    found _ _ _ (c.in-Ok.ensures.succeeds.0 refl) c.in-Ok.ensures.value
    (same_nanos _ _ _ _ _ _ (c.from_parts-shown.ensures.date ∙ c.from_plain.ensures) c.from_parts-shown.ensures.time
    c.time_of.ensures c.offset_of.ensures)

pub returns-in-Err : goal.returns-in-Err
returns-in-Err c =
    not_found _ _ (λ range. false≢true (c.in-Err.ensures.succeeds.1 range))
    (same_nanos _ _ _ _ _ _ (c.from_parts-shown.ensures.date ∙ c.from_plain.ensures) c.from_parts-shown.ensures.time
    c.time_of.ensures c.offset_of.ensures)
