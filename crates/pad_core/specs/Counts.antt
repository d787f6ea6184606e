-- How many operations of each origin a log has, and the names that follow from it.
use Rattle.std.specs.Prelude.{◌≡◌, ℕ, ◌+◌, List, [], ◌∷◌, fold, take, IsTrue}
use Rattle.pad_model.specs.Operation.{Characters, characters_in}
use Rattle.pad_model.specs.Seen.{count_in, with_count}
use Rattle.pad_model.specs.declared.op.Op.{Op}
use Rattle.pad_model.specs.declared.op.OpName.{OpName}
use Rattle.pad_model.specs.declared.op.Part.{Part}
use Rattle.pad_model.specs.declared.seen.Counted.{Counted}
use Rattle.holdback.specs.Held.{reaches}

-- the vector once one more operation is counted
abbrev pub counted : List Counted → Op → List Counted
counted seen op = with_count seen op.name.origin (count_in seen op.name.origin + 1)

-- how many operations of each origin a log has, by rising origin
abbrev pub vector_of : List Op → List Counted
vector_of log = fold counted [] log

-- each further operation is the next of its origin
abbrev pub AreNumbered : List Counted → List Op → Type 0
AreNumbered seen [] = Unit {0}
AreNumbered seen (op ∷ log) = (op.name.number ≡ count_in seen op.name.origin + 1)
    × AreNumbered (counted seen op) log

-- each further operation comes after all that it had seen
abbrev pub AreTimely : List Counted → List Op → Type 0
AreTimely seen [] = Unit {0}
AreTimely seen (op ∷ log) = IsTrue (reaches seen op.seen) × AreTimely (counted seen op) log

-- the name of the next operation of an origin
abbrev pub next_name : ℕ → List Op → OpName
next_name own log = record { origin = own; number = count_in (vector_of log) own + 1 }

-- the operation that an author makes next on a server: it has seen what is delivered of the other origins
abbrev pub op_of : ℕ → List ℕ → List Part → List Op → Op
op_of own author parts log = record {
  name = next_name own log;
  seen = with_count (vector_of log) own 0;
  author = author;
  parts = parts;
}

-- what the first operations of a log insert and erase
abbrev pub characters_at : ℕ → List Op → Characters
characters_at rev log = characters_in (take rev log)
