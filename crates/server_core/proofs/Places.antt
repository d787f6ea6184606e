-- What is at an index of the row, and past it.
use Rattle.std.proofs.Common.{◌≡◌, ℕ, ◌<◌, ◌≤◌, List, length, Some, None, refl, ap, ◌∙◌}
use Rattle.std.specs.List.{slice_get, slice_set, slice_index_or}
use Rattle.std.proofs.lemmas.Option.{slice_get-get_or, slice_get_past}
use Rattle.pad_model.specs.declared.who.Who.{Who}
use Rattle.pad_core.specs.Machine.{Machine, name_of, step}
use Rattle.pad_core.specs.declared.act.Act.TheVariants as act
use Rattle.sessions.specs.declared.session.Room.{Room}
use Rattle.server_core.specs.Steps.{left_room, name_at}

-- the name of a cell of the row is its pad's
pub name_here : (cells : List Machine) (cell : ℕ) (m : Machine) → cell < length cells →
    m ≡ slice_index_or cells cell m → name_of m.owned ≡ name_at cell cells
name_here cells cell m low is = rw (slice_get-get_or cells cell m low) (ap (λ (k : Machine). name_of k.owned) is)

-- past the row there is none
pub name_past : (cells : List Machine) (cell : ℕ) → length cells ≤ cell → None ≡ name_at cell cells
name_past cells cell past = rw (slice_get_past cells cell past) refl

-- a room of the row is left in its cell
pub left_here : (cells : List Machine) (who : Who) (room : Room) (d new : Machine) (pad : List ℕ) → room.cell
    < length cells → pad ≡ room.pad →
    new ≡ (step pad who (Some room.visit) act.Leave (slice_index_or cells room.cell d)).1 →
    slice_set cells room.cell new ≡ left_room who room cells
left_here cells who room d new pad low pad_is new_is =
    rw (slice_get-get_or cells room.cell d low)
    (ap (slice_set cells room.cell) (new_is
    ∙ ap (λ (p : List ℕ). (step p who (Some room.visit) act.Leave (slice_index_or cells room.cell d)).1) pad_is))

-- past the row nothing is left
pub left_past : (cells : List Machine) (who : Who) (room : Room) → length cells ≤ room.cell →
    cells ≡ left_room who room cells
left_past cells who room past = rw (slice_get_past cells room.cell past) refl
