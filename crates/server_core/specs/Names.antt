-- The names of a row, after any events.
use Rattle.std.specs.Prelude.{◌≡◌, ◌≢◌, ℕ, List, [], ◌∷◌, map, slice_get, Option, Some, None}
use Rattle.std.specs.List.{AllByRecursion, repeat}
use Rattle.sessions.specs.Accounts.{Accounts}
use Rattle.pad_core.specs.Machine.{Machine, name_of}
use Rattle.server_core.specs.Actor.{nobody}
use Rattle.server_core.specs.Machine.{Server, new_server, run}
use Rattle.server_core.specs.declared.step.Event.{Event}

-- the name of each cell, if it has one
abbrev pub names_of : List Machine → List (Option (List ℕ))
names_of cells = map (λ m. name_of m.owned) cells

-- the cells with a name are the first ones, and no two have the same name
abbrev pub AreNamedInTurn : List (Option (List ℕ)) → Type 0
AreNamedInTurn [] = Unit {0}
AreNamedInTurn (None ∷ names) = AllByRecursion (λ name. name ≡ None) names
AreNamedInTurn (Some name ∷ names) = AllByRecursion (λ other. other ≢ Some name) names
    × AreNamedInTurn names

-- a cell that has a name keeps it
abbrev pub NamesStay : List (Option (List ℕ)) → List (Option (List ℕ)) → Type 0
NamesStay old new = (cell : ℕ) → (name : List ℕ) → slice_get old cell ≡ Some (Some name)
    → slice_get new cell
    ≡ Some (Some name)

-- a new server with some actors opened
abbrev pub opened_server : ℕ → ℕ → ℕ → Accounts → ℕ → Server
opened_server replica present cells accounts
    actors = record (new_server replica present cells accounts)
    { actors = repeat actors (nobody ∷ []) }

-- after any events, the cells with a name are the first ones and their names differ, and the names stay whatever
-- follows
abbrev pub NamesLaw : Type 0
NamesLaw =
    (replica present cells actors : ℕ) → (accounts : Accounts) → (events more : List Event) →
    let s : Server = (run events (opened_server replica present cells accounts actors)).1 in
    AreNamedInTurn (names_of s.cells) × NamesStay (names_of s.cells) (names_of (run more s).1.cells)
