-- What is written can be read again.
use Rattle.std.specs.Prelude.{◌≡◌, ◌≤◌, true, Some, IsTrue}
use Rattle.std.specs.List.{AllByRecursion}
use Rattle.std.specs.Option.{IfSome}
use Rattle.std.specs.Str.{all_scalars}
use Rattle.pad_model.specs.Checked.{is_checked}
use Rattle.pad_model.specs.Seen.{IsVector}
use Rattle.pad_model.specs.Stamp.{Stamp, IsInLimits}
use Rattle.pad_model.specs.declared.limits.TheConstants.{MAX_REPLICA}
use Rattle.pad_model.specs.declared.op.Op.{Op}
use Rattle.pad_model.specs.declared.op.Part.{Part}
use Rattle.pad_model.specs.declared.op.Part.TheVariants.{Insert, Delete, Comment, Resolve}
use Rattle.wire_json.specs.Operations.{op_data}
use Rattle.wire_json.specs.Requests.{op_in}

-- a stamp is within its limits
abbrev pub IsStamp : Stamp → Type 0
IsStamp stamp = IsInLimits stamp.counter stamp.replica

-- a part has values of its types: stamps, characters, and the number of a replica
abbrev pub IsSayablePart : Part → Type 0
IsSayablePart (Insert run) = IsStamp run.first × IfSome run.after IsStamp
    × (all_scalars run.text ≡ true)
IsSayablePart (Delete spans) = AllByRecursion (λ span. IsStamp span.first) spans
IsSayablePart (Comment first last text) = IsStamp first × IsStamp last × (all_scalars text ≡ true)
IsSayablePart (Resolve comment) = comment.origin ≤ MAX_REPLICA

-- an operation has values of its types: a replica's number, a vector, and such parts
pub record IsSayable (op : Op) : Type 0 where
  pub origin : op.name.origin ≤ MAX_REPLICA
  pub vector : IsVector op.seen
  pub origins : AllByRecursion (λ pair. pair.origin ≤ MAX_REPLICA) op.seen
  pub parts : AllByRecursion IsSayablePart op.parts

-- an operation within the limits is read as it was written
abbrev pub ReadAgainLaw : Type 0
ReadAgainLaw = (op : Op) → IsTrue (is_checked op) → IsSayable op → op_in (op_data op) ≡ Some op
