-- The known names of a row's pads, and the first cell at which a request on a pad is tried.
use Rattle.std.specs.Prelude.{◌≡◌, ℕ, ◌+◌, ◌-◌, ◌^◌, ◌==◌, ◌||◌, ◌&&◌, not, nat_lt, min, Bool, if◌then◌else◌}
use Rattle.std.specs.Prelude.{List, [], ◌∷◌, ◌++◌, length, Option, Some, None, bytes_eq}
use Rattle.std.specs.List.{list_any, position_or_len}
use Rattle.pad_core.specs.declared.request.Request.{Request}
use Rattle.pad_core.specs.declared.request.Request.TheVariants as request
use Rattle.shared_pads.specs.LockedPad.{IsNamed}

-- the names of a row's first cells, in the order of the cells, and the number of creations under way
pub record NameBook : Type 0 where
  pub names : List (List ℕ)
  pub creations : ℕ

-- each name is that of the pad in its cell, in the order of the cells from this one
abbrev pub AreNames : ℕ → List (List ℕ) → Type 0
AreNames cell [] = Unit {0}
AreNames cell (name ∷ names) = IsNamed cell name × AreNames (cell + 1) names

-- whether a name is known
abbrev pub is_known : List ℕ → List (List ℕ) → Bool
is_known name names = list_any (bytes_eq name) names

-- the first cell with this name, or else the first cell whose name is not known: each cell before it has another name
abbrev pub place_of : List ℕ → List (List ℕ) → ℕ
place_of name names = position_or_len (bytes_eq name) names

-- the count with one more creation, up to its maximum
abbrev pub more : ℕ → ℕ
more creations = min (creations + 1) (2 ^ 64 - 1)

-- the count with one creation less; a count at its maximum stays there
abbrev pub fewer : ℕ → ℕ
fewer creations = if creations == 2 ^ 64 - 1 then creations else creations - 1

-- the count of creations under way, with this request if it is one
abbrev pub counted : Request → ℕ → ℕ
counted (request.Create pad) creations = more creations
counted other creations = creations

-- the first cell at which a request on the pad of this name is tried: none if no cell has the name and no creation is
-- under way
abbrev pub start_of : List ℕ → Request → NameBook → Option ℕ
start_of name (request.Create pad) book = Some (place_of name book.names)
start_of name other book =
    if is_known name book.names || nat_lt 0 book.creations then Some (place_of name book.names)
    else None

-- the first cell at which a request is tried, by some names of the row's cells
abbrev pub Starts : List ℕ → Request → Option ℕ → Type 0
Starts name request start = (book : NameBook) × AreNames 0 book.names
    × (start ≡ start_of name request book)

-- the names with that of a cell, if it is the next cell and no other cell has the name
abbrev pub with_name : ℕ → List ℕ → List (List ℕ) → List (List ℕ)
with_name cell name names =
    if cell == length names && not (is_known name names) then names ++ name ∷ [] else names
