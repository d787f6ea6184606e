-- What the lock of a shared pad protects, and what a call of a seat is.
use Rattle.std.specs.Prelude.{◌≡◌, ◌⊎◌, ℕ, ◌+◌, ◌≤◌, ◌<◌, ◌^◌, ◌-◌, List, [], ◌∷◌, ◌++◌, length, min, sum_by, slice_get}
use Rattle.std.specs.Prelude.{slice_set, true, Option, None, Some, Err}
use Rattle.std.specs.List.{AllByRecursion}
use Rattle.pad_model.specs.declared.op.Op.{Op}
use Rattle.pad_model.specs.declared.refusal.Refusal.TheVariants.{SeatsOut}
use Rattle.pad_model.specs.declared.who.Who.{Who}
use Rattle.sessions.specs.declared.session.Room.{Room}
use Rattle.pad_core.specs.Delivered.{IsDelivered}
use Rattle.pad_core.specs.Listing.{listing}
use Rattle.pad_core.specs.Machine.{IsPad, Machine, name_of, step, tick}
use Rattle.pad_core.specs.declared.act.Act.TheVariants.{Leave}
use Rattle.pad_core.specs.declared.reply.Listed.{Listed}
use Rattle.pad_core.specs.declared.request.Request.{Request}
use Rattle.server_core.specs.AtCell.{request_at}
use Rattle.server_core.specs.Served.{Visited}
use Rattle.shared_pads.specs.Seats.{Answer, Stands, Tells, are_apart, counted, edit_of, uncounted}
use Rattle.shared_pads.specs.declared.seat.LastEdit.{LastEdit}
use Rattle.shared_pads.specs.declared.seat.TheConstants.{MAX_SEATS}
use Rattle.shared_pads.specs.declared.seat.Seat.{Seat}
use Rattle.shared_pads.specs.declared.seat.SeatTally.{SeatTally}
use Rattle.shared_pads.specs.declared.sums.Sums.{Sums}

-- a pad, the revision that it had when it came under its lock, the tally of each seat by its number, how many calls all
-- have made, and how many seats there is room for
pub record LockedPad : Type 0 where
  pub pad : Machine
  pub base : ℕ
  pub tallies : List SeatTally
  pub calls : ℕ
  pub seats : ℕ

-- whenever the lock is free: the revision is the base and the operations of all seats, each last edit is in the log,
-- the calls are those of all seats, and there is room for the tallies of as many seats as may be made
pub record IsKept (log : List Op) (base : ℕ) (tallies : List SeatTally) (calls seats room : ℕ) : Type 0
  where
    pub revision : length log ≡ base + sum_by (λ t. t.operations) tallies
    pub standing : AllByRecursion (λ t. Stands log t.last) tallies
    pub called : calls ≡ sum_by (λ t. t.calls) tallies
    pub roomy : seats ≤ room

-- what the lock of a pad without seats protects, with room for this many seats, at most 96
abbrev pub unseated : ℕ → Machine → LockedPad
unseated seats m =
    record { pad = m; base = length m.log; tallies = []; calls = 0; seats = min seats MAX_SEATS }

-- the next seat, at a cell
abbrev pub next_seat : ℕ → LockedPad → Seat
next_seat cell k = record {
  cell = cell;
  number = length k.tallies;
  base = k.base;
  tally = uncounted;
}

-- what the lock protects once that seat was made
abbrev pub one_more : LockedPad → LockedPad
one_more k = record k { tallies = k.tallies ++ uncounted ∷ [] }

-- a seat is the one that the lock knows, and one more call can be counted
abbrev pub IsKnown : LockedPad → Seat → Type 0
IsKnown k seat = (seat.base ≡ k.base) × (slice_get k.tallies seat.number ≡ Some seat.tally)
    × (k.calls < 2 ^ 64 - 1)

-- a seat after one more call
abbrev pub seat_after : ℕ → Option LastEdit → Seat → Seat
seat_after more edit seat = record seat { tally = counted more edit seat.tally }

-- what the lock protects after a call of a seat that left the pad in this state
abbrev pub kept_after : Machine → ℕ → Option LastEdit → Seat → LockedPad → LockedPad
kept_after m more edit seat k = record k {
  pad = m;
  tallies = slice_set k.tallies seat.number (counted more edit seat.tally);
  calls = k.calls + 1;
}

-- a call of a seat that is known does what the machine's step does at the cell, and the seat and the lock count it
-- alike
abbrev pub Counts : LockedPad → Seat → Who → Request → List Room → Answer → Seat → List Room → LockedPad
    → Type 0
Counts old seat who request rooms answer after new next =
    (more : ℕ) × (length next.pad.log ≡ length old.pad.log + more) × Tells request answer more
    × Visited who request rooms old.pad (request_at who request seat.cell rooms old.pad) answer new
    next.pad
    × (after ≡ seat_after more (edit_of request answer) seat)
    × (next ≡ kept_after next.pad more (edit_of request answer) seat old)

-- what the lock protects once its pad was told the time
abbrev pub ticked : ℕ → LockedPad → LockedPad
ticked clock k = record k { pad = tick clock k.pad }

-- a pad after the session of a visit has left it
abbrev pub left : Who → Room → Machine → Machine
left who room m = (step room.pad who (Some room.visit) Leave m).1

-- a pad is one that the machine can have, it has the seat's last edit at its revision, and at least the operations of
-- the seat after its base
abbrev pub Fits : Seat → Machine → Type 0
Fits seat m = IsDelivered m.log × Stands m.log seat.tally.last
    × (seat.base + seat.tally.operations ≤ length m.log)
    × IsPad m.owned m.replica m.held m.presence

-- the lock does not know a seat, and nothing changes; or what the machine's step does at the cell from some state that
-- fits the seat, which is counted and fits what it leads to
abbrev pub IsCall : Seat → Who → Request → List Room → Answer → Seat → List Room → Type 0
IsCall seat who request rooms answer after new =
    ((answer ≡ Err SeatsOut) × (after ≡ seat) × (new ≡ rooms))
    ⊎ ((old : Machine) × (next : Machine) × (more : ℕ) × Fits seat old
    × (length next.log ≡ length old.log + more)
    × Tells request answer more
    × Visited who request rooms old (request_at who request seat.cell rooms old) answer new next
    × (after ≡ seat_after more (edit_of request answer) seat) × Fits after next)

-- a call of a seat is one of these two. A call of `SharedPad::call` alone gives this fact
pub Called : Seat → Who → Request → List Room → Answer → Seat → List Room → Type 0
Called seat who request rooms answer after new = IsCall seat who request rooms answer after new

-- a call with one of these two results
pub was_called : (seat : Seat) (who : Who) (request : Request) (rooms : List Room) (answer : Answer)
    (after : Seat) (new : List Room) → IsCall seat who request rooms answer after new
    → Called seat who request rooms answer after new
unfolding Called
was_called seat who request rooms answer after new call = call

-- a pad can be in this state
abbrev pub CanBe : Machine → Type 0
CanBe m = IsDelivered m.log × IsPad m.owned m.replica m.held m.presence

-- the pad of a cell has this name: it has it in some state that it can have, and keeps it. `SharedPad::name` alone gives
-- this fact
pub IsNamed : ℕ → List ℕ → Type 0
IsNamed cell name = (m : Machine) × CanBe m × (name_of m.owned ≡ Some name)

-- a name that a pad has
pub named : (cell : ℕ) (name : List ℕ) (m : Machine) → CanBe m → name_of m.owned ≡ Some name
    → IsNamed cell name
unfolding IsNamed
named cell name m can is = (m, can, is)

-- a pad as somebody sees it in a list of pads, in some state that it can have
abbrev pub IsListing : Who → Option Listed → Type 0
IsListing who told = (m : Machine) × CanBe m × (told ≡ listing who m)

-- a session's departure from a pad, by a seat: the lock did not know the seat, which stays; or the session left the pad
-- in some state that fits the seat, and the seat counted a call. A call of `SharedPad::depart` alone gives this fact
pub Departs : Seat → Who → Room → Seat → Type 0
Departs seat who room after =
    (after ≡ seat) ⊎ ((m : Machine) × Fits seat m × (after ≡ seat_after 0 None seat)
    × Fits after (left who room m))

-- a departure with one of these two results
pub departed : (seat : Seat) (who : Who) (room : Room) (after : Seat) →
    (after ≡ seat)
    ⊎ ((m : Machine) × Fits seat m × (after ≡ seat_after 0 None seat)
    × Fits after (left who room m)) →
    Departs seat who room after
unfolding Departs
departed seat who room after h = h

-- a seat is of this cell, and exactly as the lock knows it
abbrev pub IsOf : ℕ → LockedPad → Seat → Type 0
IsOf cell k seat = (seat.base ≡ k.base) × (slice_get k.tallies seat.number ≡ Some seat.tally)
    × (seat.cell ≡ cell)

-- seats are all that the lock made: as many, with numbers of their own, and each is of the cell and as the lock knows it
abbrev pub AreAll : ℕ → LockedPad → List Seat → Type 0
AreAll cell k seats =
    (length seats ≡ length k.tallies) × (are_apart seats ≡ true)
    × AllByRecursion (IsOf cell k) seats

-- what all seats together have done: they have numbers of their own, each is of the cell and as the lock knows it, and
-- the revision of the pad is the base and their operations
abbrev pub IsClosed : ℕ → LockedPad → List Seat → Sums → Type 0
IsClosed cell k seats sums =
    (are_apart seats ≡ true) × AllByRecursion (IsOf cell k) seats
    × (sums.operations ≡ sum_by (λ seat. seat.tally.operations) seats)
    × (sums.calls ≡ sum_by (λ seat. seat.tally.calls) seats)
    × (length k.pad.log ≡ k.base + sums.operations) × (k.calls ≡ sums.calls)

-- a pad is no longer shared: its seats have numbers of their own, this cell and one base, the last edit of each is in
-- its log, and its revision is that base and their operations
pub record HasClosed (m : Machine) (cell : ℕ) (seats : List Seat) (operations calls : ℕ) : Type 0
  where
    pub base : ℕ
    pub apart : are_apart seats ≡ true
    pub placed : AllByRecursion (λ seat. seat.cell ≡ cell) seats
    pub based : AllByRecursion (λ seat. seat.base ≡ base) seats
    pub standing : AllByRecursion (λ seat. Stands m.log seat.tally.last) seats
    pub revision : length m.log ≡ base + operations
    pub made : operations ≡ sum_by (λ seat. seat.tally.operations) seats
    pub called : calls ≡ sum_by (λ seat. seat.tally.calls) seats
