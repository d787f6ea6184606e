-- What operations insert and erase, singly and in a log.
use Rattle.std.specs.Prelude.{ℕ, zero, suc, List, [], ◌∷◌, flat_map}
use Rattle.pad_model.specs.Stamp.{Stamp}
use Rattle.pad_model.specs.Character.{Character, next, run_characters}
use Rattle.pad_model.specs.declared.who.Author.{Author}
use Rattle.pad_model.specs.declared.op.Span.{Span}
use Rattle.pad_model.specs.declared.op.Part.{Part}
use Rattle.pad_model.specs.declared.op.Part.TheVariants.{Insert, Delete, Comment, Resolve}
use Rattle.pad_model.specs.declared.op.Op.{Op}

-- a set of character operations: what was inserted, and what was erased
pub record Characters : Type 0 where
  pub inserted : List Character
  pub erased : List Stamp

-- the first stamp and those that follow it, n in all
abbrev pub stamps_from : Stamp → ℕ → List Stamp
stamps_from first zero = []
stamps_from first (suc n) = first ∷ stamps_from (next first) n

-- the stamps of a span
abbrev pub span_stamps : Span → List Stamp
span_stamps span = stamps_from span.first span.len

-- the author of an operation: its author's name at its origin
abbrev pub author_of : Op → Author
author_of op = record { name = op.author; origin = op.name.origin }

-- the characters that a part inserts
abbrev pub part_inserts : Author → Part → List Character
part_inserts author (Insert run) = run_characters run.first run.after run.text author
part_inserts author (Delete spans) = []
part_inserts author (Comment first last text) = []
part_inserts author (Resolve comment) = []

-- the characters that a part erases, by their stamps
abbrev pub part_erases : Part → List Stamp
part_erases (Insert run) = []
part_erases (Delete spans) = flat_map span_stamps spans
part_erases (Comment first last text) = []
part_erases (Resolve comment) = []

-- the characters that an operation inserts
abbrev pub inserted_by : Op → List Character
inserted_by op = flat_map (part_inserts (author_of op)) op.parts

-- the stamps that an operation erases
abbrev pub erased_by : Op → List Stamp
erased_by op = flat_map part_erases op.parts

-- what the operations of a log insert and erase together
abbrev pub characters_in : List Op → Characters
characters_in log = record { inserted = flat_map inserted_by log; erased = flat_map erased_by log }
