-- Operations as bytes.
use Rattle.std.specs.Prelude.{ℕ, List, ◌++◌, length, Option, Some, None, flat_map}
use Rattle.pad_model.specs.Stamp.{Stamp}
use Rattle.pad_model.specs.declared.seen.Counted.{Counted}
use Rattle.pad_model.specs.declared.op.OpName.{OpName}
use Rattle.pad_model.specs.declared.op.Span.{Span}
use Rattle.pad_model.specs.declared.op.Part.{Part}
use Rattle.pad_model.specs.declared.op.Part.TheVariants.{Insert, Delete, Comment, Resolve}
use Rattle.pad_model.specs.declared.op.Op.{Op}
use Rattle.op_log.specs.Number.{number_bytes}

-- a stamp: its counter and its replica
abbrev pub stamp_bytes : Stamp → List ℕ
stamp_bytes stamp = number_bytes stamp.counter ++ number_bytes stamp.replica

-- a parent: 0 for the root, or 1 and the stamp
abbrev pub parent_bytes : Option Stamp → List ℕ
parent_bytes None = number_bytes 0
parent_bytes (Some stamp) = number_bytes 1 ++ stamp_bytes stamp

-- a text: how many characters, and each one's code
abbrev pub text_bytes : List ℕ → List ℕ
text_bytes text = number_bytes (length text) ++ flat_map number_bytes text

-- a span: its first stamp and its length
abbrev pub span_bytes : Span → List ℕ
span_bytes span = stamp_bytes span.first ++ number_bytes span.len

-- a name: its origin and its number
abbrev pub name_bytes : OpName → List ℕ
name_bytes name = number_bytes name.origin ++ number_bytes name.number

-- a part: its kind, and what it says
abbrev pub part_bytes : Part → List ℕ
part_bytes (Insert run) = number_bytes 0
    ++ (stamp_bytes run.first ++ (parent_bytes run.after ++ text_bytes run.text))
part_bytes (Delete spans) = number_bytes 1
    ++ (number_bytes (length spans) ++ flat_map span_bytes spans)
part_bytes (Comment first last text) = number_bytes 2
    ++ (stamp_bytes first ++ (stamp_bytes last ++ text_bytes text))
part_bytes (Resolve comment) = number_bytes 3 ++ name_bytes comment

-- how many operations of an origin were seen
abbrev pub counted_bytes : Counted → List ℕ
counted_bytes pair = number_bytes pair.origin ++ number_bytes pair.count

-- a version vector: how many pairs, and each
abbrev pub seen_bytes : List Counted → List ℕ
seen_bytes pairs = number_bytes (length pairs) ++ flat_map counted_bytes pairs

-- the parts of an operation: how many, and each
abbrev pub parts_bytes : List Part → List ℕ
parts_bytes parts = number_bytes (length parts) ++ flat_map part_bytes parts

-- an operation, with its author's place in a table of names
abbrev pub op_bytes : ℕ → Op → List ℕ
op_bytes author op = name_bytes op.name
    ++ (seen_bytes op.seen ++ (number_bytes author ++ parts_bytes op.parts))
