-- A visit to only the cells of a list.
use Rattle.std.specs.Prelude.{◌≡◌, ℕ, min, List, length, slice_get, Option, None, Some, Result, Ok}
use Rattle.pad_model.specs.declared.refusal.Refusal.{Refusal}

-- the number of cells of a list that are visited: all, up to the greatest position
abbrev pub count_of : List ℕ → ℕ
count_of cells = min (length cells) 4294967295

-- the name of a cell, if there is a cell
abbrev pub NameOf : {P : Type 0} → (P → ℕ → Result (Option (List ℕ)) Refusal → P → Type 0)
    → Option ℕ → P →
    Result (Option (List ℕ)) Refusal → P → Type 0
NameOf names None old answer new = (answer ≡ Ok None) × (new ≡ old)
NameOf names (Some cell) old answer new = names old cell answer new

-- names by the positions in a list of cells: at each position, the name of the cell listed there
abbrev pub by_place : {P : Type 0} → List ℕ
    → (P → ℕ → Result (Option (List ℕ)) Refusal → P → Type 0) → P → ℕ →
    Result (Option (List ℕ)) Refusal → P → Type 0
by_place cells names old place answer new = NameOf names (slice_get cells place) old answer new
