-- All the seats that a lock made have done together what it counted.
use Rattle.std.proofs.Common.{◌≡◌, ◌↔◌, ℕ, ◌+◌, ◌-◌, ◌≤◌, ◌==◌, ◌||◌, Bool, true, false, not, List, [], ◌∷◌, map}
use Rattle.std.proofs.Common.{length, sum_by, slice_get, slice_set, get_or, Option, Some, None, IsSome, refl, sym, ap}
use Rattle.std.proofs.Common.{◌∙◌, subst, arith, eq-eqb}
use Rattle.std.proofs.lemmas.Bool.{and_parts, not-true}
use Rattle.std.proofs.lemmas.List.Sums.{sum-map, sum_by-cons, sum_by-set}
use Rattle.std.proofs.lemmas.Option.{get_or_from_slice_get, slice_get_within, slice_get-map}
use Rattle.std.specs.List.{AllByRecursion, list_any}
use Rattle.std.specs.Option.{is_some, option_map}
use Rattle.pad_core.specs.Machine.{Machine}
use Rattle.server_core.proofs.Named.{get-set_other}
use Rattle.shared_pads.specs.LockedPad.{AreAll, IsKept, IsOf, LockedPad}
use Rattle.shared_pads.specs.Seats.{are_apart}
use Rattle.shared_pads.specs.declared.seat.Seat.{Seat}
use Rattle.shared_pads.specs.declared.seat.SeatTally.{SeatTally}
use Rattle.shared_pads.specs.declared.sums.Sums.{Sums}
use Rattle.shared_pads.proofs.Calls.{kept_of}

-- each seat's number is the place of what is counted of it
abbrev Places : (SeatTally → ℕ) → List ℕ → List Seat → Type 0
Places f counts seats = AllByRecursion (λ seat. slice_get counts seat.number ≡ Some (f seat.tally)) seats

neither : (x y : Bool) → (x || y) ≡ false → (x ≡ false) × (y ≡ false)
neither true y e = absurd (cc)
neither false y e = (refl, e)

true_false : true ≡ false → ⊥
true_false e = cc

-- a place that is none of theirs may be set
other_place : (f : SeatTally → ℕ) (counts : List ℕ) (n : ℕ) (seats : List Seat) → list_any (λ seat. seat.number == n) seats
    ≡ false → Places f counts seats → Places f (slice_set counts n 0) seats
other_place f counts n [] apart h = tt
other_place f counts n (seat ∷ seats) apart h =
    let none = neither (seat.number == n) (list_any (λ seat. seat.number == n) seats) apart in (
      get-set_other counts n seat.number 0 (λ e. true_false (sym (eq-eqb seat.number n e) ∙ none.0)) ∙ h.0,
      other_place f counts n seats none.1 h.1,
    )

-- seats with places of their own add no more than all places
within : (f : SeatTally → ℕ) (seats : List Seat) (counts : List ℕ) → are_apart seats ≡ true → Places f counts seats →
    sum_by (λ seat. f seat.tally) seats ≤ sum_by (λ n. n) counts
within f [] counts apart h = omega arith
within f (seat ∷ seats) counts apart h =
    let both = and_parts (not (list_any (λ other. other.number == seat.number) seats)) (are_apart seats) apart in
    let rest = within f seats (slice_set counts seat.number 0) both.1
    (other_place f counts seat.number seats (not-true _ both.0) h.1) in
    let all = sum_by-cons (λ (seat : Seat). f seat.tally) seat seats in
    let set = sum_by-set (λ n. n) counts seat.number 0 0 (slice_get_within counts seat.number (f seat.tally) h.0) in
    let is : get_or counts seat.number 0 ≡ f seat.tally =
    get_or_from_slice_get counts seat.number (f seat.tally) 0 h.0 in
    omega arith

placed : (f : SeatTally → ℕ) (cell : ℕ) (k : LockedPad) (seats : List Seat) → AllByRecursion (IsOf cell k) seats →
    Places f (map f k.tallies) seats
placed f cell k [] h = tt
placed f cell k (seat ∷ seats) h =
    (slice_get-map f k.tallies seat.number ∙ ap (option_map f) h.0.1, placed f cell k seats h.1)

no_more : (f : SeatTally → ℕ) (cell : ℕ) (k : LockedPad) (seats : List Seat) → AreAll cell k seats →
    sum_by (λ seat. f seat.tally) seats ≤ sum_by f k.tallies
no_more f cell k seats all = let least = within f seats (map f k.tallies) all.1 (placed f cell k seats all.2) in let is =
    sum-map f k.tallies in omega arith

-- none is more than the sum
each_low : {X : Type 0} (f : X → ℕ) (m : ℕ) (xs : List X) → sum_by f xs ≤ m → AllByRecursion (λ x. f x ≤ m) xs
each_low f m [] low = tt
each_low f m (x ∷ xs) low = let all = sum_by-cons f x xs in (omega arith, each_low f m xs (omega arith))

-- what each has and what it lacks of m
lacking : {X : Type 0} (f : X → ℕ) (m : ℕ) (xs : List X) → AllByRecursion (λ x. f x ≤ m) xs → sum_by (λ x. m - f x) xs
    + sum_by f xs ≡ sum_by (λ x. m) xs
lacking f m [] low = omega arith
lacking f m (x ∷ xs) low =
    let lacks = sum_by-cons (λ x. m - f x) x xs in
    let has = sum_by-cons f x xs in
    let whole = sum_by-cons (λ x. m) x xs in
    let rest = lacking f m xs low.1 in
    let least = low.0 in
    omega arith

as_many : {X Y : Type 0} (m : ℕ) (xs : List X) (ys : List Y) → length xs ≡ length ys → sum_by (λ x. m) xs
    ≡ sum_by (λ y. m) ys
as_many m [] [] e = refl
as_many m [] (y ∷ ys) e = absurd (omega arith)
as_many m (x ∷ xs) [] e = absurd (omega arith)
as_many m (x ∷ xs) (y ∷ ys) e =
    let left = sum_by-cons (λ x. m) x xs in let right = sum_by-cons (λ y. m) y ys in let rest =
    as_many m xs ys (omega arith) in omega arith

-- as many seats as there are places, each with its own, add just what the places do: they add no more of what each has,
-- and no more of what each lacks
same_sum : (f : SeatTally → ℕ) (cell : ℕ) (k : LockedPad) (seats : List Seat) → AreAll cell k seats →
    sum_by (λ seat. f seat.tally) seats ≡ sum_by f k.tallies
same_sum f cell k seats all =
    let has = no_more f cell k seats all in
    let lacks = no_more (λ t. sum_by f k.tallies - f t) cell k seats all in
    let seated = lacking (λ (seat : Seat). f seat.tally) (sum_by f k.tallies) seats
    (each_low (λ (seat : Seat). f seat.tally) (sum_by f k.tallies) seats has) in
    let known = lacking f (sum_by f k.tallies) k.tallies (each_low f (sum_by f k.tallies) k.tallies (omega arith)) in
    let many = as_many (sum_by f k.tallies) seats k.tallies all.0 in
    omega arith

-- so they have made the revision of the pad, and all calls
pub all_made : (pad : Machine) (base : ℕ) (ts : List SeatTally) (calls most room cell : ℕ) (k : LockedPad) (seats : List Seat) →
    kept_of pad base ts calls most ≡ k → IsKept pad.log base ts calls most room → AreAll cell k seats →
    (length pad.log ≡ base + sum_by (λ seat. seat.tally.operations) seats)
    × (calls ≡ sum_by (λ seat. seat.tally.calls) seats)
all_made pad base ts calls most room cell k seats view kept all =
    let here = subst (λ k. AreAll cell k seats) (sym view) all in
    let operations = same_sum (λ t. t.operations) cell (kept_of pad base ts calls most) seats here in
    let called = same_sum (λ t. t.calls) cell (kept_of pad base ts calls most) seats here in
    let revision = kept.revision in
    let counted = kept.called in
    (omega arith, omega arith)

-- what is refused was not all seats
pub not_all : (result : Option Sums) (cell : ℕ) (k : LockedPad) (seats : List Seat) → result ≡ None →
    (AreAll cell k seats → ⊥) → IsSome result ↔ AreAll cell k seats
not_all result cell k seats none refuted = (
  (λ some. absurd (none_some (sym (ap is_some none) ∙ some))),
  (λ all. absurd (refuted all)),
)
  where
    none_some : false ≡ true → ⊥
    none_some e = cc
