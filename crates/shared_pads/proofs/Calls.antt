-- A call of a seat that the lock knows.
use Rattle.std.proofs.Common.{◌≡◌, None, inr, ℕ, ◌+◌, ◌-◌, ◌^◌, ◌<◌, ◌≤◌, List, ◌++◌, length, slice_set, Option, Some}
use Rattle.std.proofs.Common.{refl, sym, ap, ap₂, ◌∙◌, subst, arith}
use Rattle.std.proofs.lemmas.List.{length-append}
use Rattle.std.proofs.lemmas.Option.{slice_get_within}
use Rattle.pad_model.specs.declared.who.Who.{Who}
use Rattle.sessions.specs.declared.session.Room.{Room}
use Rattle.pad_core.specs.Delivered.{IsDelivered}
use Rattle.pad_core.specs.Machine.{IsPad, Machine, step}
use Rattle.pad_core.specs.declared.act.Act.TheVariants as act
use Rattle.pad_core.specs.declared.request.Request.{Request}
use Rattle.server_core.specs.AtCell.{request_at}
use Rattle.server_core.specs.Served.{Visited}
use Rattle.shared_pads.specs.LockedPad.{Called, Counts, Departs, Fits, IsKept, IsKnown, LockedPad, departed, left, seat_after, was_called}
use Rattle.shared_pads.specs.Seats.{Answer, Stands, counted, edit_of}
use Rattle.shared_pads.specs.declared.seat.LastEdit.{LastEdit}
use Rattle.shared_pads.specs.declared.seat.Seat.{Seat}
use Rattle.shared_pads.specs.declared.seat.SeatTally.{SeatTally}
use Rattle.shared_pads.proofs.Grows.{Grown, step_grows, visited_grows}
use Rattle.shared_pads.proofs.Tallies.{kept_on, one_of, one_within, stands_after, stands_on}

abbrev pub kept_of : Machine → ℕ → List SeatTally → ℕ → ℕ → LockedPad
kept_of pad base ts calls most = record { pad = pad; base = base; tallies = ts; calls = calls; seats = most }

-- one more call of a seat that is known can be counted
module _ (pad : Machine) (base : ℕ) (ts : List SeatTally) (calls most room : ℕ) (k : LockedPad) (seat : Seat)
    (view : kept_of pad base ts calls most ≡ k) (known : IsKnown k seat) (kept : IsKept pad.log base ts calls most room) where
  there : IsKnown (kept_of pad base ts calls most) seat
  there = subst (λ k. IsKnown k seat) (sym view) known

  pub calls_low : seat.tally.calls < 2 ^ 64 - 1
  calls_low = let few = one_within (λ t. t.calls) ts seat.number seat.tally refl there.1 in let all = kept.called in
      let low = there.2 in omega arith

  pub number_low : seat.number < length ts
  number_low = slice_get_within ts seat.number seat.tally there.1

  -- who leaves changes no operation
  pub departs : (name : List ℕ) (w : Who) (visit : ℕ) (after : Machine) (t : SeatTally) →
      after ≡ (step name w (Some visit) act.Leave pad).1 → t ≡ counted 0 None seat.tally →
      IsKept after.log base (slice_set ts seat.number t) (calls + 1) most room
  departs name w visit after t is told =
      let grown = step_grows name w (Some visit) act.Leave pad.owned pad.replica pad.log pad.held pad.presence
      pad.clock pad.made in
      subst (λ (m : Machine). IsKept m.log base (slice_set ts seat.number t) (calls + 1) most room) (sym is)
      (subst (λ (t : SeatTally). IsKept (step name w (Some visit) act.Leave pad).1.log base (slice_set ts seat.number t)
      (calls + 1) most room) (ap (λ n. counted n None seat.tally) grown.2 ∙ sym told)
      (kept_on pad.log (step name w (Some visit) act.Leave pad).1.log grown.0 base calls most room seat.number ts seat.tally None
      kept there.1 grown.1 tt))

  fits_here : IsDelivered pad.log → IsPad pad.owned pad.replica pad.held pad.presence → Fits seat pad
  fits_here delivered sound = (
    delivered,
    one_of (λ t. Stands pad.log t.last) ts seat.number seat.tally kept.standing there.1,
    (let few = one_within (λ t. t.operations) ts seat.number seat.tally refl there.1 in
        let all = kept.revision in let base_is = there.0 in omega arith),
    sound,
  )

  fits_left : (who : Who) (gone : Room) (after : Machine) → after ≡ left who gone pad → Fits seat pad →
      IsDelivered after.log → IsPad after.owned after.replica after.held after.presence →
      Fits (seat_after 0 None seat) after
  fits_left who gone after is fits delivered sound =
      let grown = step_grows gone.pad who (Some gone.visit) act.Leave pad.owned pad.replica pad.log pad.held
      pad.presence pad.clock pad.made in
      let log_is : after.log ≡ pad.log ++ grown.0 = ap (λ (m : Machine). m.log) is ∙ grown.1 in (
        delivered,
        subst (λ log. Stands log seat.tally.last) (sym log_is) (stands_on pad.log grown.0 seat.tally.last fits.1),
        (let least = fits.2 in let l = ap length log_is ∙ length-append pad.log grown.0 in omega arith),
        sound,
      )

  -- the session has left the pad, and the seat counted it
  pub departs_known : (who : Who) (gone : Room) (after : Machine) (t : SeatTally) → after ≡ left who gone pad →
      t ≡ counted 0 None seat.tally → IsDelivered pad.log → IsPad pad.owned pad.replica pad.held pad.presence →
      IsDelivered after.log → IsPad after.owned after.replica after.held after.presence →
      Departs seat who gone (let s : Seat = record seat { tally = t } in s)
  departs_known who gone after t is told delivered sound now_delivered now_sound =
      let fits = fits_here delivered sound in
      subst (λ (t : SeatTally). Departs seat who gone (let s : Seat = record seat { tally = t } in s)) (sym told)
      (departed seat who gone (seat_after 0 None seat) (inr (
        pad,
        fits,
        refl,
        subst (λ (m : Machine). Fits (seat_after 0 None seat) m) is
            (fits_left who gone after is fits now_delivered now_sound),
      )))

-- what a call was, before it is counted
pub record Visit (pad : Machine) (base : ℕ) (ts : List SeatTally) (calls most room : ℕ) (k : LockedPad) (seat : Seat) (who : Who)
    (asked : Request) (rooms : List Room) (answer : Answer) (new : List Room) (after : Machine)
    (before now : ℕ) : Type 0 where
  pub view : kept_of pad base ts calls most ≡ k
  pub known : IsKnown k seat
  pub kept : IsKept pad.log base ts calls most room
  pub visited : Visited who asked rooms pad (request_at who asked seat.cell rooms pad) answer new after
  pub was : before ≡ length pad.log
  pub is : now ≡ length after.log

module _ (pad : Machine) (base : ℕ) (ts : List SeatTally) (calls most room : ℕ) (k : LockedPad) (seat : Seat) (who : Who)
    (asked : Request)
    (rooms : List Room) (answer : Answer) (new : List Room) (after : Machine) (before now : ℕ)
    (v : Visit pad base ts calls most room k seat who asked rooms answer new after before now) where
  grown : Grown asked answer pad.log after.log
  grown = visited_grows who asked seat.cell rooms pad answer new after v.visited

  longer : length after.log ≡ length pad.log + length grown.0
  longer = ap length grown.1 ∙ length-append pad.log grown.0

  known_here : IsKnown (kept_of pad base ts calls most) seat
  known_here = subst (λ k. IsKnown k seat) (sym v.view) v.known

  -- the revision does not fall
  pub no_fewer : before ≤ now
  no_fewer = let l = longer in let a = v.was in let b = v.is in omega arith

  -- one more call can be counted
  pub room_for_call : seat.tally.calls < 2 ^ 64 - 1
  room_for_call = let few = one_within (λ t. t.calls) ts seat.number seat.tally refl known_here.1 in let all =
      v.kept.called in let low = known_here.2 in omega arith

  -- and its operations
  pub room_for_operations : seat.tally.operations + (now - before) ≤ now
  room_for_operations =
      let few = one_within (λ t. t.operations) ts seat.number seat.tally refl known_here.1 in let all =
      v.kept.revision in let l = longer in let a = v.was in let b = v.is in omega arith

  pub here : seat.number < length ts
  here = slice_get_within ts seat.number seat.tally known_here.1

  told : (edit : Option LastEdit) (t : SeatTally) → edit ≡ edit_of asked answer →
      t ≡ counted (now - before) edit seat.tally → t ≡ counted (length grown.0) (edit_of asked answer) seat.tally
  told edit t edit_is t_is =
      let count : now - before ≡ length grown.0 = let l = longer in let a = v.was in let b = v.is in omega arith in
      t_is ∙ ap₂ (λ n e. counted n e seat.tally) count edit_is

  -- the seat and the lock count it
  pub counts : (edit : Option LastEdit) (t : SeatTally) → edit ≡ edit_of asked answer →
      t ≡ counted (now - before) edit seat.tally →
      Counts k seat who asked rooms answer (record seat { tally = t }) new
      (kept_of after base (slice_set ts seat.number t) (calls + 1) most)
  counts edit t edit_is t_is =
      subst (λ k. Counts k seat who asked rooms answer (record seat { tally = t }) new
      (kept_of after base (slice_set ts seat.number t) (calls + 1) most)) v.view (
        length grown.0,
        longer,
        grown.2,
        v.visited,
        ap (λ (t : SeatTally). (let s : Seat = record seat { tally = t } in s))
            (told edit t edit_is t_is),
        ap (λ t. kept_of after base (slice_set ts seat.number t) (calls + 1) most)
            (told edit t edit_is t_is),
      )

  -- and what lies under the lock is sound
  pub stays_kept : (edit : Option LastEdit) (t : SeatTally) → edit ≡ edit_of asked answer →
      t ≡ counted (now - before) edit seat.tally → IsKept after.log base (slice_set ts seat.number t) (calls + 1) most room
  stays_kept edit t edit_is t_is =
      subst (λ t. IsKept after.log base (slice_set ts seat.number t) (calls + 1) most room) (sym (told edit t edit_is t_is))
      (kept_on pad.log after.log grown.0 base calls most room seat.number ts seat.tally (edit_of asked answer) v.kept known_here.1
      grown.1 grown.3)

  fits_before : IsDelivered pad.log → IsPad pad.owned pad.replica pad.held pad.presence → Fits seat pad
  fits_before delivered sound = (
    delivered,
    one_of (λ t. Stands pad.log t.last) ts seat.number seat.tally v.kept.standing known_here.1,
    (let few = one_within (λ t. t.operations) ts seat.number seat.tally refl known_here.1 in
        let all = v.kept.revision in let base_is = known_here.0 in omega arith),
    sound,
  )

  fits_after : IsDelivered pad.log → IsPad pad.owned pad.replica pad.held pad.presence → IsDelivered after.log →
      IsPad after.owned after.replica after.held after.presence →
      Fits (seat_after (length grown.0) (edit_of asked answer) seat) after
  fits_after delivered sound now_delivered now_sound =
      let fits = fits_before delivered sound in (
        now_delivered,
        stands_after after.log (edit_of asked answer) seat.tally.last grown.3 (subst (λ log. Stands log seat.tally.last)
            (sym grown.1) (stands_on pad.log grown.0 seat.tally.last fits.1)),
        (let least = fits.2 in let l = longer in omega arith),
        now_sound,
      )

  -- it is a step of the machine from a state that fits the seat
  pub called : (edit : Option LastEdit) (t : SeatTally) → edit ≡ edit_of asked answer →
      t ≡ counted (now - before) edit seat.tally → IsDelivered pad.log →
      IsPad pad.owned pad.replica pad.held pad.presence → IsDelivered after.log →
      IsPad after.owned after.replica after.held after.presence →
      Called seat who asked rooms answer (record seat { tally = t }) new
  called edit t edit_is t_is delivered sound now_delivered now_sound =
      let is : (let s : Seat = record seat { tally = t } in s) ≡ seat_after (length grown.0)
      (edit_of asked answer) seat = ap (λ (t : SeatTally). (let s : Seat = record seat { tally = t } in s))
      (told edit t edit_is t_is) in
      was_called seat who asked rooms answer (record seat { tally = t }) new (inr (
        pad,
        after,
        length grown.0,
        fits_before delivered sound,
        longer,
        grown.2,
        v.visited,
        is,
        subst (λ s. Fits s after) (sym is) (fits_after delivered sound now_delivered now_sound),
      ))
