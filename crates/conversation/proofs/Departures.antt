-- A session leaves the pad of a room.
use Rattle.std.proofs.Common.{◌≡◌, ◌⊎◌, inl, inr, ℕ, ◌<◌, ◌≤◌, List, length, get_or, Some, refl, sym, ap, ◌∙◌, arith}
use Rattle.std.specs.List.{slice_get, slice_set}
use Rattle.std.specs.Option.{option_map}
use Rattle.std.proofs.lemmas.List.{length-map}
use Rattle.std.proofs.lemmas.Option.{slice_get-get_or, slice_get-map, slice_get_within}
use Rattle.pad_model.specs.declared.who.Who.{Who}
use Rattle.sessions.specs.declared.session.Room.{Room}
use Rattle.shared_pads.specs.LockedPad.{Departs}
use Rattle.shared_pads.specs.declared.seat.Seat.{Seat}
use Rattle.shared_pads.specs.declared.shared_pad.SharedPad.{SharedPad}
use Rattle.conversation.specs.PadTable.{HasNoSeat}
use Rattle.conversation.specs.ThreadSession.{LeavesRoom}
use Rattle.conversation.specs.Seating.{cells_in}

-- the cell of the pad at a place of a row
cell_there : {S : Type 0} (row : List (SharedPad S)) (place : ℕ) (pad : SharedPad S) → place < length row →
    pad ≡ get_or row place pad → slice_get (cells_in row) place ≡ Some pad.cell
cell_there {S} row place pad low is =
    slice_get-map (λ (p : SharedPad S). p.cell) row place
    ∙ ap (option_map (λ (p : SharedPad S). p.cell)) (slice_get-get_or row place pad low ∙ ap Some (sym is))

same_number : (a b : ℕ) → Some a ≡ Some b → a ≡ b
same_number a b e = cc

same_seat : (a b : Seat) → Some a ≡ Some b → a ≡ b
same_seat a b e = cc

-- two reads at one place give the same
pub same_at : (seats : List Seat) (place : ℕ) (first again : Seat) → place < length seats →
    first ≡ get_or seats place first → again ≡ get_or seats place again → first ≡ again
same_at seats place first again low first_is again_is =
    same_seat first again (ap Some first_is ∙ sym (slice_get-get_or seats place first low)
    ∙ slice_get-get_or seats place again low ∙ ap Some (sym again_is))

-- there is no seat of the cell at a place
module _ {S : Type 0} (row : List (SharedPad S)) (place : ℕ) (seats : List Seat) where
  -- the row or the thread has no such place
  pub no_place : (length row ≤ place) ⊎ (length seats ≤ place) → HasNoSeat (cells_in row) place seats
  no_place (inl past) = λ seat there at.
      let low = slice_get_within (cells_in row) place seat.cell at in
      let many = length-map row (λ (p : SharedPad S). p.cell) in
      absurd (omega arith)
  no_place (inr past) = λ seat there at.
      let low = slice_get_within seats place seat there in absurd (omega arith)

  -- the seat there is of another cell
  pub other_cell : (pad : SharedPad S) (seat : Seat) → place < length row → pad ≡ get_or row place pad
      → place < length seats → seat ≡ get_or seats place seat → (seat.cell ≡ pad.cell → ⊥)
      → HasNoSeat (cells_in row) place seats
  other_cell pad seat in_row pad_is in_seats seat_is other found there at =
      let here = slice_get-get_or seats place seat in_seats ∙ ap Some (sym seat_is) in
      other (ap (λ (s : Seat). s.cell) (same_seat seat found (sym here ∙ there))
      ∙ same_number found.cell pad.cell (sym at ∙ cell_there row place pad in_row pad_is))

module _ {S : Type 0} (row : List (SharedPad S)) (who : Who) (room : Room) (old : List Seat) where
  -- the row or the thread has no such place
  pub none_there : (length row ≤ room.cell) ⊎ (length old ≤ room.cell) → LeavesRoom (cells_in row) who room old old
  none_there past = inr (no_place row room.cell old past, refl)

  module _ (pad : SharedPad S) (seat : Seat) (in_row : room.cell < length row) (pad_is : pad ≡ get_or row room.cell pad)
      (in_seats : room.cell < length old) (seat_is : seat ≡ get_or old room.cell seat) where
    seat_there : slice_get old room.cell ≡ Some seat
    seat_there = slice_get-get_or old room.cell seat in_seats ∙ ap Some (sym seat_is)

    -- the seat there is of another cell
    pub none_of_cell : (seat.cell ≡ pad.cell → ⊥) → LeavesRoom (cells_in row) who room old old
    none_of_cell other = inr (other_cell row room.cell old pad seat in_row pad_is in_seats seat_is other, refl)

    -- it leaves by the seat there
    pub leaves_by : (after : Seat) → seat.cell ≡ pad.cell → Departs seat who room after →
        LeavesRoom (cells_in row) who room old (slice_set old room.cell after)
    leaves_by after own departs = inl (
      seat,
      after,
      seat_there,
      cell_there row room.cell pad in_row pad_is ∙ ap Some (sym own),
      departs,
      refl,
    )
