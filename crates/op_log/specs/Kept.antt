-- Operations, as contracts see them.
use Rattle.std.specs.Prelude.{List, Option}
use Rattle.pad_model.specs.declared.op.Op.{Op}

-- the operations in their order, and the one that is ready to become the next, if any
pub record Kept : Type 0 where
  pub operations : List Op
  pub ready : Option Op
