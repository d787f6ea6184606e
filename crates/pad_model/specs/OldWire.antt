-- What version 1 of the wire can express: one part, counters up to 2^40, replica numbers up to 255.
use Rattle.std.specs.Prelude.{ℕ, ◌+◌, Bool, true, ◌&&◌, ◌==◌, nat_le, List, length, Option, Some, None}
use Rattle.std.specs.List.{list_all}
use Rattle.pad_model.specs.Stamp.{Stamp}
use Rattle.pad_model.specs.declared.seen.Counted.{Counted}
use Rattle.pad_model.specs.declared.op.Part.{Part}
use Rattle.pad_model.specs.declared.op.Part.TheVariants.{Insert, Delete, Comment, Resolve}
use Rattle.pad_model.specs.declared.op.Op.{Op}
use Rattle.pad_model.specs.declared.limits.TheConstants.{OLD_COUNTER, OLD_REPLICA}

-- whether n stamps from this one on can be expressed; the first is sent even if n is 0
abbrev pub old_stamps : Stamp → ℕ → Bool
old_stamps first n = nat_le first.counter OLD_COUNTER
    && nat_le (first.counter + n) (OLD_COUNTER + 1)
    && nat_le first.replica OLD_REPLICA

-- whether a parent can be expressed: the root always can
abbrev pub old_parent : Option Stamp → Bool
old_parent None = true
old_parent (Some p) = old_stamps p 1

-- whether a part can be expressed
abbrev pub old_part : Part → Bool
old_part (Insert run) = old_stamps run.first (length run.text) && old_parent run.after
old_part (Delete spans) = list_all (λ span. old_stamps span.first span.len) spans
old_part (Comment first last text) = old_stamps first 1 && old_stamps last 1
old_part (Resolve comment) = nat_le comment.origin OLD_REPLICA

-- whether a version vector can be expressed
abbrev pub seen_in_v1 : List Counted → Bool
seen_in_v1 pairs = list_all (λ pair. nat_le pair.origin OLD_REPLICA) pairs

-- whether an operation can be expressed
abbrev pub op_in_v1 : Op → Bool
op_in_v1 op = length op.parts == 1 && list_all old_part op.parts
    && nat_le op.name.origin OLD_REPLICA
    && seen_in_v1 op.seen
