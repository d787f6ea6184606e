-- In which visit of a pad each of its operations was made.
use Rattle.std.specs.Prelude.{ℕ, ◌≤◌, ◌==◌, nat_lt, if◌then◌else◌, List, [], ◌∷◌, length, None, unwrap_or}
use Rattle.std.specs.List.{last_or}
use Rattle.std.specs.Vec.{vec_capacity}
use Rattle.pad_model.specs.declared.op.Op.{Op}
use Rattle.op_log.specs.declared.maker_list.MakerList.TheInside.{Inside}

-- in which visit each operation was made, and how many there is room for
pub record Makers : Type 0 where
  pub makers : List ℕ
  pub room : ℕ

-- the visit that is noted for an operation: its number, or 0 for one that is too great for any pad to have given out
abbrev pub noted : ℕ → ℕ
noted visit = if nat_lt visit 4294967296 then visit else 0

-- the operations that a visit made, of operations and of the visits that made each
abbrev pub made_in : ℕ → List Op → List ℕ → List Op
made_in visit [] makers = []
made_in visit (op ∷ log) [] = []
made_in visit (op ∷ log) (maker ∷ makers) =
    if maker == visit then op ∷ made_in visit log makers else made_in visit log makers

-- the visit that made the last operation, or 0
abbrev pub last_maker : List ℕ → ℕ
last_maker makers = unwrap_or (last_or None makers) 0

-- the visits that are kept, and the room for them
abbrev pub makers_shown : Inside → Makers
makers_shown m = record { makers = m.visits.items; room = vec_capacity m.visits }

-- there is room for the visits that are kept
abbrev pub IsMakerList : Inside → Type 0
IsMakerList m = length m.visits.items ≤ vec_capacity m.visits
