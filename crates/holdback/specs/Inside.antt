-- The invariant of held operations, and what a search by name finds.
use Rattle.std.specs.Prelude.{◌≡◌, ℕ, ◌≤◌, ◌<◌, true, false, List, length, slice_get}
use Rattle.std.specs.List.{AllWithin, find, insert, remove}
use Rattle.pad_model.specs.declared.op.Op.{Op}
use Rattle.pad_model.specs.declared.op.OpName.{OpName}
use Rattle.holdback.specs.Held.{IsRising, has_name, is_held, with_held, without}
use Rattle.pad_model.specs.Log.{precedes}
use Rattle.holdback.specs.declared.held.TheConstants.{MAX_HELD}

-- the names rise, and there are at most as many as may be held
pub record IsHold (held : List Op) : Type 0 where
  pub rising : IsRising held
  pub few : length held ≤ MAX_HELD

-- the operations before a place come before a name, and those from it on do not
pub record IsParted (held : List Op) (name : OpName) (place : ℕ) : Type 0 where
  pub in_range : place ≤ length held
  pub before : AllWithin (λ op. precedes op.name name ≡ true) held 0 place
  pub behind : AllWithin (λ op. precedes op.name name ≡ false) held place (length held)

-- the operation with a name is at a place
pub record IsAt (held : List Op) (name : OpName) (place : ℕ) : Type 0 where
  pub in_range : place < length held
  pub there : is_held name held ≡ true
  pub found : find (has_name name) held ≡ slice_get held place
  pub rest : without name held ≡ remove held place

-- no operation has this name, and one would be inserted at a place
pub record IsGapFor (held : List Op) (name : OpName) (place : ℕ) : Type 0 where
  pub in_range : place ≤ length held
  pub absent : is_held name held ≡ false
  pub fits : (op : Op) → op.name ≡ name → with_held op held ≡ insert held place op
