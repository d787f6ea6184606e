-- Which lines were written after all lines before them were synced.
use Rattle.std.specs.Prelude.{ℕ, List, codes, Bool, false, not, Option, Some, None, is_some, option_and_then}
use Rattle.serde_json.specs.Data.{Data}
use Rattle.serde_json.specs.Find.{get}
use Rattle.wire_json.specs.Lines.{value_of}
use Rattle.store_format.specs.Lines.{text_within}

-- whether a value says that it was written together with an earlier line that was not yet synced
abbrev pub is_together : Data → Bool
is_together d = is_some (get (codes "together") d)

-- whether a value begins a batch of lines
abbrev pub is_alone : Option Data → Bool
is_alone None = false
is_alone (Some d) = not (is_together d)

-- whether a line has the form of one, and begins a batch: it was written after all lines before it were synced
abbrev pub begins_batch : List ℕ → Bool
begins_batch line = is_alone (option_and_then value_of (text_within line))
