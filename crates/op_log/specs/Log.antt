-- A log of operations, and what is asked of it.
use Rattle.std.specs.Prelude.{ℕ, ◌-◌, Bool, not, ◌==◌, nat_lt, Option, List, take, drop, count_by}
use Rattle.std.specs.List.{filter, list_all}
use Rattle.pad_model.specs.Checked.{is_edit}
use Rattle.pad_model.specs.OldWire.{op_in_v1}
use Rattle.pad_model.specs.Log.{same_name}
use Rattle.pad_model.specs.Seen.{count_in}
use Rattle.pad_model.specs.declared.op.Op.{Op}
use Rattle.pad_model.specs.declared.op.OpName.{OpName}
use Rattle.pad_model.specs.declared.seen.Counted.{Counted}

-- the operations in the order of delivery, and the one that is ready to become the next, if any
pub record Log : Type 0 where
  pub operations : List Op
  pub ready : Option Op

-- the operations that make the revisions from this one on, as many as asked for or as there are
abbrev pub entries : List Op → ℕ → ℕ → List Op
entries ops from count = take count (drop (from - 1) ops)

-- whether an operation is of an origin
abbrev pub is_of : ℕ → Op → Bool
is_of origin op = op.name.origin == origin

-- how many operations are of an origin
abbrev pub count_of : List Op → ℕ → ℕ
count_of ops origin = count_by (is_of origin) ops

-- whether an operation has a name
abbrev pub has_name : OpName → Op → Bool
has_name name op = same_name op.name name

-- whether the number of an operation is above the count of its origin
abbrev pub is_missing : List Counted → Op → Bool
is_missing seen op = nat_lt (count_in seen op.name.origin) op.name.number

-- the first operations that are above the counts, in the order of the log, at most this many
abbrev pub missing : List Op → List Counted → ℕ → List Op
missing ops seen most = take most (filter (is_missing seen) ops)

-- whether an operation comments or resolves
abbrev pub is_note : Op → Bool
is_note op = not (list_all is_edit op.parts)

-- whether the first version of the wire cannot say an operation
abbrev pub is_unsayable : Op → Bool
is_unsayable op = not (op_in_v1 op)
