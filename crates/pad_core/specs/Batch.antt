-- How many operations one answer holds: as many as fit, by a bound of what each takes as JSON.
use Rattle.std.specs.Prelude.{ℕ, ◌+◌, ◌-◌, ◌*◌, nat_lt, if◌then◌else◌, List, [], ◌∷◌, length, sum_by}
use Rattle.pad_model.specs.declared.op.Op.{Op}
use Rattle.pad_model.specs.declared.op.Part.{Part}
use Rattle.pad_model.specs.declared.op.Part.TheVariants.{Insert, Delete, Comment, Resolve}
use Rattle.pad_core.specs.declared.batch.TheConstants.{CHARACTER_BYTES, COUNT_BYTES, OP_BYTES, PART_BYTES, SPAN_BYTES}
use Rattle.pad_core.specs.declared.exchange.TheConstants.{MAX_BATCH_BYTES}

-- the most bytes that a part takes: a fixed number for each character of its text or each span, and some for the rest
abbrev pub size_of_part : Part → ℕ
size_of_part (Insert run) = PART_BYTES + CHARACTER_BYTES * length run.text
size_of_part (Delete spans) = PART_BYTES + SPAN_BYTES * length spans
size_of_part (Comment first last text) = PART_BYTES + CHARACTER_BYTES * length text
size_of_part (Resolve comment) = PART_BYTES

-- the most bytes that an operation takes: its parts, a fixed number for each count that it names, and some for the rest
abbrev pub size_of : Op → ℕ
size_of op = OP_BYTES + COUNT_BYTES * length op.seen + sum_by size_of_part op.parts

-- the operations that fit in this many bytes, up to the first that does not
abbrev pub fitting : ℕ → List Op → List Op
fitting room [] = []
fitting room (op ∷ ops) = if nat_lt room (size_of op) then []
    else op ∷ fitting (room - size_of op) ops

-- the operations that fit in this many bytes, but the first one in any case
abbrev pub fitting_some : ℕ → List Op → List Op
fitting_some room [] = []
fitting_some room (op ∷ ops) = op ∷ fitting (room - size_of op) ops

-- the operations that are given at once, of those that a peer lacks
abbrev pub batch_of : List Op → List Op
batch_of ops = fitting_some MAX_BATCH_BYTES ops
