-- The seats that are made for threads.
use Rattle.std.specs.Prelude.{◌≡◌, ◌⊎◌, ◌<◌, ℕ, List, [], ◌∷◌, ◌++◌, map, replicate, take, Result, Ok, Err, Vec}
use Rattle.std.specs.declared.alloc.Global.{Global}
use Rattle.pad_model.specs.declared.refusal.Refusal.{Refusal}
use Rattle.shared_pads.specs.declared.seat.Seat.{Seat}
use Rattle.shared_pads.specs.declared.shared_pad.SharedPad.{SharedPad}

-- the cells of seats
abbrev pub cells_of : List Seat → List ℕ
cells_of seats = map (λ seat. seat.cell) seats

-- the cells of pads
abbrev pub cells_in : {S : Type 0} → List (SharedPad S) → List ℕ
cells_in row = map (λ pad. pad.cell) row

-- the seats stay, and after them comes one at each cell of a row, in order, or at only the first cells
abbrev pub TakesSeats : {S : Type 0} → List (SharedPad S) → List Seat → Result (Unit {0}) Refusal
    → List Seat → Type 0
TakesSeats row old (Ok done) new = (more : List Seat) × (new ≡ old ++ more)
    × (cells_of more ≡ cells_in row)
TakesSeats row old (Err refusal) new = (more : List Seat) × (count : ℕ) × (new ≡ old ++ more)
    × (cells_of more ≡ cells_in (take count row))

-- the cells of each thread's seats
abbrev pub crew_cells : List (Vec Seat Global) → List (List ℕ)
crew_cells crew = map (λ seats. cells_of seats.items) crew

-- no seats, or one thread's seats at the first cells of a row
abbrev pub IsPart : {S : Type 0} → List (SharedPad S) → List (Vec Seat Global) → Type 0
IsPart row last =
    (last ≡ []) ⊎ ((seats : Vec Seat Global) × (count : ℕ) × (last ≡ seats ∷ [])
    × (cells_of seats.items ≡ cells_in (take count row)))

-- the threads keep their seats, and after them come this many threads with a seat at each cell of a row; or fewer, and
-- then perhaps one with seats at only the first cells
abbrev pub TakesAllSeats : {S : Type 0} → List (SharedPad S) → ℕ → List (Vec Seat Global) →
    Result (Unit {0}) Refusal → List (Vec Seat Global) → Type 0
TakesAllSeats row threads old (Ok done) new =
    (more : List (Vec Seat Global)) × (new ≡ old ++ more)
    × (crew_cells more ≡ replicate threads (cells_in row))
TakesAllSeats row threads old (Err refusal) new =
    (more last : List (Vec Seat Global)) × (count : ℕ) × (new ≡ (old ++ more) ++ last)
    × (count < threads)
    × (crew_cells more ≡ replicate count (cells_in row)) × IsPart row last
