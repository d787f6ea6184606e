-- One more call is counted under a lock.
use Rattle.std.proofs.Common.{◌≡◌, ℕ, zero, suc, ◌+◌, ◌≤◌, true, false, List, [], ◌∷◌, ◌++◌, length, sum_by, slice_get}
use Rattle.std.proofs.Common.{slice_set, get_or, Option, Some, None, refl, sym, ap, ◌∙◌, subst, arith}
use Rattle.std.proofs.lemmas.List.{length-append}
use Rattle.std.proofs.lemmas.List.Sums.{sum_by-set}
use Rattle.std.proofs.lemmas.Option.{get_or_from_slice_get, slice_get_within}
use Rattle.std.specs.List.{AllByRecursion}
use Rattle.std.specs.Option.{option_map_or}
use Rattle.pad_model.specs.Log.{same_name}
use Rattle.pad_model.specs.declared.op.Op.{Op}
use Rattle.pad_model.specs.declared.op.OpName.{OpName}
use Rattle.pad_core.specs.Audit.{stands_at}
use Rattle.pad_core.specs.Machine.{Machine}
use Rattle.shared_pads.specs.LockedPad.{HasClosed, IsClosed, IsKept, IsOf, LockedPad}
use Rattle.shared_pads.specs.Seats.{Stands, counted, last_after, uncounted}
use Rattle.shared_pads.specs.declared.seat.LastEdit.{LastEdit}
use Rattle.shared_pads.specs.declared.seat.Seat.{Seat}
use Rattle.shared_pads.specs.declared.seat.SeatTally.{SeatTally}
use Rattle.shared_pads.specs.declared.sums.Sums.{Sums}

-- what is in a list stays there when more is added at its end
there : (log more : List Op) (i : ℕ) (op : Op) → slice_get log i ≡ Some op → slice_get (log ++ more) i ≡ Some op
there [] more i op e = absurd (none_some op e)
  where
    none_some : (op : Op) → (let o : Option Op = None in o) ≡ Some op → ⊥
    none_some op q = cc
there (x ∷ log) more zero op e = e
there (x ∷ log) more (suc i) op e = there log more i op e

false_true : false ≡ true → ⊥
false_true q = cc

standing_at : (name : OpName) (rev : ℕ) (log more : List Op) → stands_at name rev log ≡ true →
    stands_at name rev (log ++ more) ≡ true
standing_at name zero log more e = e
standing_at name (suc i) log more e = at (slice_get log i) refl
  where
    at : (o : Option Op) → slice_get log i ≡ o → stands_at name (suc i) (log ++ more) ≡ true
    at None is = absurd (false_true (sym (ap (λ o. option_map_or (λ (op : Op). same_name op.name name) o false) is)
        ∙ e))
    at (Some op) is = ap (λ o. option_map_or (λ (op : Op). same_name op.name name) o false) (there log more i op is)
        ∙ sym (ap (λ o. option_map_or (λ (op : Op). same_name op.name name) o false) is) ∙ e

-- a last edit is in a longer log
pub stands_on : (log more : List Op) (edit : Option LastEdit) → Stands log edit → Stands (log ++ more) edit
stands_on log more None h = tt
stands_on log more (Some edit) h = standing_at edit.name edit.rev log more h

all_stand : (log more : List Op) (ts : List SeatTally) → AllByRecursion (λ t. Stands log t.last) ts →
    AllByRecursion (λ t. Stands (log ++ more) t.last) ts
all_stand log more [] h = tt
all_stand log more (t ∷ ts) h = (stands_on log more t.last h.0, all_stand log more ts h.1)

all_set : (P : SeatTally → Type 0) (ts : List SeatTally) (i : ℕ) (t : SeatTally) → AllByRecursion P ts → P t →
    AllByRecursion P (slice_set ts i t)
all_set P [] i t h p = tt
all_set P (x ∷ ts) zero t h p = (p, h.1)
all_set P (x ∷ ts) (suc i) t h p = (h.0, all_set P ts i t h.1 p)

-- what holds of each holds of one
pub one_of : (P : SeatTally → Type 0) (ts : List SeatTally) (i : ℕ) (t : SeatTally) → AllByRecursion P ts → slice_get ts i
    ≡ Some t → P t
one_of P [] i t h e = absurd (none_some t e)
  where
    none_some : (t : SeatTally) → (let o : Option SeatTally = None in o) ≡ Some t → ⊥
    none_some t q = cc
one_of P (x ∷ ts) zero t h e = subst P (same x t e) h.0
  where
    same : (x t : SeatTally) → Some x ≡ Some t → x ≡ t
    same x t q = cc
one_of P (x ∷ ts) (suc i) t h e = one_of P ts i t h.1 e

-- one of a list adds no more than all
pub one_within : (f : SeatTally → ℕ) (ts : List SeatTally) (i : ℕ) (t : SeatTally) → f uncounted ≡ 0 → slice_get ts i ≡ Some t →
    f t ≤ sum_by f ts
one_within f ts i t none e =
    let sum = sum_by-set f ts i uncounted t (slice_get_within ts i t e) in
    let is : f (get_or ts i t) ≡ f t = ap f (get_or_from_slice_get ts i t t e) in
    omega arith

-- the sum after one was set
sum_after : (f : SeatTally → ℕ) (ts : List SeatTally) (i : ℕ) (t new : SeatTally) (n : ℕ) → slice_get ts i ≡ Some t → f new ≡ f t
    + n → sum_by f (slice_set ts i new) ≡ sum_by f ts + n
sum_after f ts i t new n e grown =
    let sum = sum_by-set f ts i new t (slice_get_within ts i t e) in
    let is : f (get_or ts i t) ≡ f t = ap f (get_or_from_slice_get ts i t t e) in
    omega arith

pub stands_after : (log : List Op) (edit before : Option LastEdit) → Stands log edit → Stands log before →
    Stands log (last_after edit before)
stands_after log None before h b = b
stands_after log (Some edit) before h b = h

-- what is kept under the lock after a call
pub kept_on : (old new more : List Op) (base calls most room i : ℕ) (ts : List SeatTally) (t : SeatTally) (edit : Option LastEdit) →
    IsKept old base ts calls most room → slice_get ts i ≡ Some t → new ≡ old ++ more → Stands new edit →
    IsKept new base (slice_set ts i (counted (length more) edit t)) (calls + 1) most room
kept_on old new more base calls most room i ts t edit kept e grown stands = record {
  revision = (let both = ap length grown ∙ length-append old more in let sum = sum_after (λ t. t.operations) ts i t
      (counted (length more) edit t) (length more) e refl in let was = kept.revision in omega arith);
  standing =
      subst (λ log. AllByRecursion (λ t. Stands log t.last) (slice_set ts i (counted (length more) edit t))) (sym grown)
      (all_set (λ t. Stands (old ++ more) t.last) ts i (counted (length more) edit t)
      (all_stand old more ts kept.standing)
      (stands_after (old ++ more) edit t.last (subst (λ log. Stands log edit) grown stands)
      (stands_on old more t.last (one_of (λ t. Stands old t.last) ts i t kept.standing e))));
  called = (let sum = sum_after (λ t. t.calls) ts i t (counted (length more) edit t) 1 e refl in
      let was = kept.called in omega arith);
  roomy = kept.roomy;
}

-- the seats that a lock knows have its base, and are of the cell
one_base : (cell : ℕ) (k : LockedPad) (seats : List Seat) → AllByRecursion (IsOf cell k) seats →
    AllByRecursion (λ seat. seat.base ≡ k.base) seats
one_base cell k [] h = tt
one_base cell k (seat ∷ seats) h = (h.0.0, one_base cell k seats h.1)

one_cell : (cell : ℕ) (k : LockedPad) (seats : List Seat) → AllByRecursion (IsOf cell k) seats →
    AllByRecursion (λ seat. seat.cell ≡ cell) seats
one_cell cell k [] h = tt
one_cell cell k (seat ∷ seats) h = (h.0.2, one_cell cell k seats h.1)

-- the last edit of each seat that a lock knows is in the log
pub seats_stand : (cell : ℕ) (k : LockedPad) (seats : List Seat) → AllByRecursion (λ t. Stands k.pad.log t.last) k.tallies →
    AllByRecursion (IsOf cell k) seats → AllByRecursion (λ seat. Stands k.pad.log seat.tally.last) seats
seats_stand cell k [] stand h = tt
seats_stand cell k (seat ∷ seats) stand h = (
  one_of (λ t. Stands k.pad.log t.last) k.tallies seat.number seat.tally stand h.0.1,
  seats_stand cell k seats stand h.1,
)

-- what the lock was asked, of the pad that it gives up
pub closed : (cell : ℕ) (k : LockedPad) (pad : Machine) (seats asked : List Seat) (sums : Sums) → IsClosed cell k asked sums →
    AllByRecursion (λ seat. Stands k.pad.log seat.tally.last) asked → asked ≡ seats → pad ≡ k.pad →
    HasClosed pad cell seats sums.operations sums.calls
closed cell k pad seats asked sums all stand same is =
    subst (λ s. HasClosed pad cell s sums.operations sums.calls) same (record {
      base = k.base;
      apart = all.0;
      placed = one_cell cell k asked all.1;
      based = one_base cell k asked all.1;
      standing = subst (λ (m : Machine). AllByRecursion (λ seat. Stands m.log seat.tally.last) asked) (sym is) stand;
      revision = ap (λ (m : Machine). length m.log) is ∙ all.4;
      made = all.2;
      called = all.3;
    })
