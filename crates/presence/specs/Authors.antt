-- Whose visits those of a pad were.
use Rattle.std.specs.Prelude.{ℕ, Bool, false, Option, Some, None, List, slice_get, bytes_eq}

-- whether an entry of a list of authors is this author
abbrev pub is_author : List ℕ → Option (Option (List ℕ)) → Bool
is_author author None = false
is_author author (Some None) = false
is_author author (Some (Some name)) = bytes_eq name author

-- whether the entry at a place is this author
abbrev pub is_author_at : ℕ → List ℕ → List (Option (List ℕ)) → Bool
is_author_at place author authors = is_author author (slice_get authors place)
