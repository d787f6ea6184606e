-- The outcome of an offer.
use Rattle.std.specs.Prelude.{◌||◌, nat_le, if◌then◌else◌, List, length, Result, Ok, Err}
use Rattle.pad_model.specs.declared.op.Op.{Op}
use Rattle.pad_model.specs.declared.seen.Counted.{Counted}
use Rattle.pad_model.specs.declared.refusal.Refusal.{Refusal}
use Rattle.pad_model.specs.declared.refusal.Refusal.TheVariants.{HoldFull}
use Rattle.holdback.specs.Held.{is_covered, is_held, is_ready, with_held}
use Rattle.holdback.specs.declared.held.Offer.{Offer}
use Rattle.holdback.specs.declared.held.Offer.TheVariants.{Ready, Held, Repeat}
use Rattle.holdback.specs.declared.held.TheConstants.{MAX_HELD}

-- the result of an offer, and what is held after it, as long as there is memory
abbrev pub offered : List Counted → Op → List Op → Result Offer Refusal × List Op
offered seen op held =
    if is_covered seen op.name || is_held op.name held then (Ok Repeat, held)
    else if is_ready seen op then (Ok (Ready op), held)
    else if nat_le MAX_HELD (length held) then (Err HoldFull, held)
    else (Ok Held, with_held op held)
