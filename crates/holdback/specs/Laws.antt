-- The statements of the laws of held operations.
use Rattle.std.specs.Prelude.{◌≡◌, List, ◌∷◌, Some, IsPermutation}
use Rattle.std.specs.List.{find}
use Rattle.pad_model.specs.declared.op.Op.{Op}
use Rattle.pad_model.specs.declared.op.OpName.{OpName}
use Rattle.pad_model.specs.declared.seen.Counted.{Counted}
use Rattle.holdback.specs.Held.{IsRising, has_name, is_ready, with_held, without}

-- adding an operation keeps those that were held and adds exactly this one
abbrev pub HeldLaw : Type 0
HeldLaw = (op : Op) (held : List Op) → IsPermutation (op ∷ held) (with_held op held)

-- the operation that a name finds and those without the name are together what was held
abbrev pub TakenLaw : Type 0
TakenLaw =
    (name : OpName) (op : Op) (held : List Op) → IsRising held → find (has_name name) held ≡ Some op
    →
    IsPermutation held (op ∷ without name held)

-- the name of the first ready operation finds that operation
abbrev pub ReadyLaw : Type 0
ReadyLaw =
    (seen : List Counted) (op : Op) (held : List Op) → IsRising held
    → find (is_ready seen) held ≡ Some op →
    find (has_name op.name) held ≡ Some op
