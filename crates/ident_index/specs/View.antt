-- How an index is stored.
use Rattle.std.specs.Prelude.{List, [], ◌∷◌}
use Rattle.std.specs.FinMap.{from_entries}
use Rattle.pad_model.specs.Stamp.{Stamp}
use Rattle.ident_index.specs.Index.{Index}
use Rattle.ident_index.specs.declared.place.BlockEntry.{BlockEntry}
use Rattle.ident_index.specs.declared.index.Key.{Key}

-- the stamp of a key
abbrev pub stamp_of : Key → Stamp
stamp_of k = record { counter = k.counter; replica = k.replica }

-- the entries, each under its first stamp
abbrev pub by_stamp : List (Key × BlockEntry) → List (Stamp × BlockEntry)
by_stamp [] = []
by_stamp (e ∷ es) = (stamp_of e.0, e.1) ∷ by_stamp es

-- the index that is stored as these entries
abbrev pub index_of : List (Key × BlockEntry) → Index
index_of es = from_entries (by_stamp es)
