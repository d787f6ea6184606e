-- Operations that are kept as bytes.
use Rattle.std.specs.Prelude.{◌≡◌, ℕ, ◌<◌, List, length, map, Some, option_map, bytes_eq}
use Rattle.std.specs.List.{AllByRecursion, IsDistinct}
use Rattle.op_log.specs.Read.{read_op, author_place}
use Rattle.op_log.specs.Kept.{Kept}
use Rattle.op_log.specs.declared.op_store.OpStore.TheInside.{Inside}

-- what the bytes say, with the table of the authors' names
abbrev pub store_shown : Inside → Kept
store_shown s = record {
  operations = map (read_op s.authors.items) s.shelf.items;
  ready = option_map (read_op s.authors.items) s.shelf.ready;
}

-- an operation's author is in the table
abbrev pub IsSigned : List (List ℕ) → List ℕ → Type 0
IsSigned authors bytes = author_place bytes < length authors

-- each operation's author is in the table, and so is that of the one that is ready; no name is in it twice
pub record IsStore (s : Inside) : Type 0 where
  pub signed : AllByRecursion (IsSigned s.authors.items) s.shelf.items
  pub ready : (bytes : List ℕ) → s.shelf.ready ≡ Some bytes → IsSigned s.authors.items bytes
  pub once : IsDistinct bytes_eq s.authors.items
