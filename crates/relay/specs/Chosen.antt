-- The pads of the listed cells, as a visit holds them.
use Rattle.std.specs.Prelude.{◌≡◌, ℕ, List, Option, Result}
use Rattle.pad_model.specs.declared.refusal.Refusal.{Refusal}
use Rattle.pad_core.specs.declared.request.Request.{Request}
use Rattle.conversation.specs.Session.{Answer}
use Rattle.relay.specs.Listed.{by_place}
use Rattle.relay.specs.declared.chosen.Chosen.{Chosen}

-- the same pads are borrowed, for the same list
abbrev pub IsSame : {P : Type 0} → Chosen P → Chosen P → Type 0
IsSame old new = (new.pads.ghost_name ≡ old.pads.ghost_name) × (new.cells ≡ old.cells)

-- a request to the pads
abbrev pub CallsChosen : {P : Type 0} → (P → Request → Answer → P → Type 0) → Chosen P → Request
    → Answer → Chosen P →
    Type 0
CallsChosen calls old request answer new = calls old.pads.now request answer new.pads.now
    × IsSame old new

-- the pads tell the name of the cell at a position in the list
abbrev pub NamesChosen : {P : Type 0} → (P → ℕ → Result (Option (List ℕ)) Refusal → P → Type 0)
    → Chosen P → ℕ →
    Result (Option (List ℕ)) Refusal → Chosen P → Type 0
NamesChosen names old place answer new = by_place old.cells.now names old.pads.now place answer
    new.pads.now
    × IsSame old new
