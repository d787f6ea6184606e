-- Seats, and pads, that are made one after another.
use Rattle.std.proofs.Common.{◌≡◌, ◌+◌, ℕ, zero, suc, List, [], ◌∷◌, ◌++◌, Result, Ok, Err, IsErrAnd, sym, ap, ap₂}
use Rattle.std.proofs.Common.{◌∙◌, arith}
use Rattle.std.specs.Prelude.{Vec, replicate}
use Rattle.std.specs.declared.alloc.Global.{Global}
use Rattle.std.specs.List.{range_with_len}
use Rattle.std.proofs.lemmas.List.{map-append, append_assoc, replicate_more}
use Rattle.pad_model.specs.declared.refusal.Refusal.{Refusal}
use Rattle.pad_model.specs.declared.refusal.Refusal.TheVariants.{Memory}
use Rattle.shared_pads.specs.declared.seat.Seat.{Seat}
use Rattle.shared_pads.specs.declared.shared_pad.SharedPad.{SharedPad}
use Rattle.conversation.specs.Seating.{TakesAllSeats, cells_in, cells_of, crew_cells}

-- one more seat, at the next cell
pub one_more_seat : {S : Type 0} (old seats new more : List Seat) (seat : Seat) (done next : List (SharedPad S))
    (pad : SharedPad S)
    → seats ≡ old ++ more → cells_of more ≡ cells_in done → new ≡ seats ++ seat ∷ [] → seat.cell ≡ pad.cell →
    next ≡ done ++ pad ∷ []
    → (new ≡ old ++ (more ++ seat ∷ [])) × (cells_of (more ++ seat ∷ []) ≡ cells_in next)
one_more_seat {S} old seats new more seat done next pad so cells pushed at grown = (
  pushed ∙ ap (λ (ss : List Seat). ss ++ seat ∷ []) so ∙ append_assoc old more (seat ∷ []),
  map-append (λ (s : Seat). s.cell) more (seat ∷ [])
      ∙ ap₂ (λ (cs : List ℕ) (n : ℕ). cs ++ n ∷ []) cells at
      ∙ sym (map-append (λ (p : SharedPad S). p.cell) done (pad ∷ []))
      ∙ ap (λ (ps : List (SharedPad S)). cells_in ps) (sym grown),
)

-- one more thread, with a seat at each cell
pub one_more_thread : {S : Type 0} (old crew new more : List (Vec Seat Global)) (seats : Vec Seat Global)
    (row : List (SharedPad S)) (count : ℕ)
    → crew ≡ old ++ more → crew_cells more ≡ replicate count (cells_in row) → new ≡ crew ++ seats ∷ [] →
    cells_of seats.items ≡ cells_in row
    → (new ≡ old ++ (more ++ seats ∷ [])) × (crew_cells (more ++ seats ∷ []) ≡ replicate (count + 1) (cells_in row))
one_more_thread {S} old crew new more seats row count so cells pushed full = (
  pushed ∙ ap (λ (c : List (Vec Seat Global)). c ++ seats ∷ []) so ∙ append_assoc old more (seats ∷ []),
  map-append (λ (v : Vec Seat Global). cells_of v.items) more (seats ∷ [])
      ∙ ap₂ (λ (cs : List (List ℕ)) (c : List ℕ). cs ++ c ∷ []) cells full
      ∙ replicate_more count (cells_in row),
)

-- the seats after a refusal
pub refused_taking : {S : Type 0} (P : Refusal → Type 0) (row : List (SharedPad S)) (threads : ℕ)
    (old new : List (Vec Seat Global)) (result : Result (Unit {0}) Refusal) → IsErrAnd result P →
    TakesAllSeats row threads old (Err Memory) new → TakesAllSeats row threads old result new
refused_taking P row threads old new (Err refusal) refused taken = taken
refused_taking P row threads old new (Ok done) refused taken = absurd refused

-- a range of numbers and the next number are a range with one more
range_more : (first count : ℕ) → range_with_len first (suc count) ≡ range_with_len first count ++ (first + count) ∷ []
range_more first zero = let same : first ≡ first + zero = omega arith in ap (λ n. n ∷ []) same
range_more first (suc count) =
    let same : first + 1 + count ≡ first + suc count = omega arith in
    ap (λ ns. first ∷ ns)
    (range_more (first + 1) count ∙ ap (λ n. range_with_len (first + 1) count ++ n ∷ []) same)

-- one more pad, in the next cell
pub one_more_pad : {S : Type 0} (row new : List (SharedPad S)) (pad : SharedPad S) (count : ℕ)
    → cells_in row ≡ range_with_len 0 count → new ≡ row ++ pad ∷ [] → pad.cell ≡ count
    → cells_in new ≡ range_with_len 0 (count + 1)
one_more_pad {S} row new pad count so pushed at =
    let next : count + 1 ≡ suc count = omega arith in
    let same : 0 + count ≡ count = omega arith in
    ap (λ (ps : List (SharedPad S)). cells_in ps) pushed
    ∙ map-append (λ (p : SharedPad S). p.cell) row (pad ∷ [])
    ∙ ap₂ (λ (cs : List ℕ) (n : ℕ). cs ++ n ∷ []) so (at ∙ sym same)
    ∙ sym (range_more 0 count) ∙ ap (range_with_len 0) (sym next)
