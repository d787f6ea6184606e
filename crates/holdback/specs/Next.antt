-- Which held operation may be delivered next.
use Rattle.std.specs.Prelude.{◌≡◌, ◌⊎◌, ◌<◌, true, false, List}
use Rattle.std.specs.List.{AllByRecursion, find}
use Rattle.std.specs.Option.{IsSomeAnd}
use Rattle.pad_model.specs.declared.op.Op.{Op}
use Rattle.pad_model.specs.declared.op.OpName.{OpName}
use Rattle.pad_model.specs.declared.seen.Counted.{Counted}
use Rattle.holdback.specs.Held.{is_ready, has_name}

-- no held operation is ready
abbrev pub NoneIsReady : List Counted → List Op → Type 0
NoneIsReady seen held = AllByRecursion (λ op. is_ready seen op ≡ false) held

-- the operation with a name is held and ready, and each other ready one has a greater origin
pub record IsNext (seen : List Counted) (held : List Op) (name : OpName) : Type 0 where
  pub ready : IsSomeAnd (find (has_name name) held) (λ op. is_ready seen op ≡ true)
  pub least : AllByRecursion (λ op. is_ready seen op ≡ true → (has_name name op ≡ true)
      ⊎ (name.origin < op.name.origin)) held
