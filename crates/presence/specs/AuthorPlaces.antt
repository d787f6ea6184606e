-- How a list of authors is stored, and how callers see it.
use Rattle.std.specs.Prelude.{ℕ, ◌<◌, ◌≤◌, Option, Some, None, List, length, map, slice_get, ⊤}
use Rattle.std.specs.List.{AllByRecursion}
use Rattle.presence.specs.declared.author_list.AuthorList.TheInside.{Inside}

-- the name at a place, if there is one
abbrev pub name_at : List (List ℕ) → Option ℕ → Option (List ℕ)
name_at names None = None
name_at names (Some place) = slice_get names place

-- a place is one of so many names, or none
abbrev pub IsBelow : ℕ → Option ℕ → Type 0
IsBelow count None = ⊤
IsBelow count (Some place) = place < count

-- the authors, each by its name
abbrev pub named : Inside → List (Option (List ℕ))
named list = map (name_at list.names.keys) list.places.items

-- each place is that of a name, and there are no more names than visits
pub record ArePlaced (list : Inside) : Type 0 where
  pub below : AllByRecursion (IsBelow (length list.names.keys)) list.places.items
  pub few : length list.names.keys ≤ length list.places.items
