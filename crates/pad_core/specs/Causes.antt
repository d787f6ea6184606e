-- What an operation had seen when it was made, and where that stands in a log: causal delivery (Birman, Schiper and
-- Stephenson 1991), of which the relation is Lamport's "happened before" (1978).
use Rattle.std.specs.Prelude.{◌≡◌, ℕ, Bool, true, false, ◌==◌, nat_lt, nat_le, if◌then◌else◌, List, ◌∷◌, ◌++◌}
use Rattle.std.specs.List.{AllByRecursion}
use Rattle.pad_model.specs.Seen.{count_in}
use Rattle.pad_model.specs.declared.op.Op.{Op}
use Rattle.pad_model.specs.declared.op.OpName.{OpName}
use Rattle.pad_model.specs.declared.op.Part.{Part}
use Rattle.pad_core.specs.Counts.{op_of}
use Rattle.pad_core.specs.Delivered.{IsDelivered}

-- whether an operation had seen the one of a name: one of its own origin with a smaller number, or one that its vector
-- counts
abbrev pub had_seen : Op → OpName → Bool
had_seen op name = if name.origin == op.name.origin then nat_lt name.number op.name.number
    else nat_le name.number (count_in op.seen name.origin)

-- in a log that a pad can have, no operation had seen one that stands behind it
abbrev pub CausalLaw : Type 0
CausalLaw = (log more : List Op) (op : Op) → IsDelivered (log ++ op ∷ more)
    → AllByRecursion (λ before. had_seen before op.name ≡ false) log

-- an operation that an author makes has seen all that are delivered
abbrev pub AllSeenLaw : Type 0
AllSeenLaw = (own : ℕ) (author : List ℕ) (parts : List Part) (log : List Op) → IsDelivered log
    → AllByRecursion (λ before. had_seen (op_of own author parts log) before.name ≡ true) log
