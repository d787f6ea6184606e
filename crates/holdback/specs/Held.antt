-- Operations that wait for others, and when one may be delivered (causal delivery).
use Rattle.std.specs.Prelude.{◌≡◌, ◌+◌, Bool, not, ◌&&◌, ◌||◌, ◌==◌, nat_lt, nat_le, if◌then◌else◌, true, List, [], ◌∷◌}
use Rattle.std.specs.Prelude.{filter}
use Rattle.std.specs.List.{AllByRecursion, list_any, list_all}
use Rattle.pad_model.specs.Log.{precedes, same_name}
use Rattle.pad_model.specs.Seen.{count_in}
use Rattle.pad_model.specs.declared.op.Op.{Op}
use Rattle.pad_model.specs.declared.op.OpName.{OpName}
use Rattle.pad_model.specs.declared.seen.Counted.{Counted}

-- whether the operation with this name was delivered
abbrev pub is_covered : List Counted → OpName → Bool
is_covered seen name = nat_le name.number (count_in seen name.origin)

-- whether each of the counts is reached
abbrev pub reaches : List Counted → List Counted → Bool
reaches seen counts = list_all (λ pair. nat_le pair.count (count_in seen pair.origin)) counts

-- whether an operation is the next of its origin, and every count in its own vector is reached
abbrev pub is_ready : List Counted → Op → Bool
is_ready seen op = op.name.number == count_in seen op.name.origin + 1 && reaches seen op.seen

-- whether an operation has a name
abbrev pub has_name : OpName → Op → Bool
has_name name op = same_name op.name name

-- whether an operation with this name is held
abbrev pub is_held : OpName → List Op → Bool
is_held name held = list_any (has_name name) held

-- the names rise
abbrev pub IsRising : List Op → Type 0
IsRising [] = Unit {0}
IsRising (op ∷ held) = AllByRecursion (λ later. precedes op.name later.name ≡ true) held
    × IsRising held

-- the held operations with one more, in order of name
abbrev pub with_held : Op → List Op → List Op
with_held op [] = op ∷ []
with_held op (first ∷ held) = if precedes first.name op.name then first ∷ with_held op held
    else op ∷ first ∷ held

-- the held operations without the one of this name
abbrev pub without : OpName → List Op → List Op
without name held = filter (λ op. not (has_name name op)) held
