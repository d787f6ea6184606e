-- What a search of a log finds.
use Rattle.std.specs.Prelude.{◌≡◌, ℕ, List, [], ◌∷◌, drop, Option, Some, None}
use Rattle.std.specs.List.{filter}
use Rattle.pad_model.specs.declared.op.Op.{Op}
use Rattle.pad_model.specs.declared.seen.Counted.{Counted}
use Rattle.op_log.specs.Log.{is_missing}
use Rattle.op_log.specs.declared.op_log.FoundOp.{FoundOp}

-- the first operation from a place on that is above the counts, if there is one; the others come after it
abbrev pub IsNextMissing : List Counted → List Op → ℕ → Option FoundOp → Type 0
IsNextMissing seen ops from None = filter (is_missing seen) (drop from ops) ≡ []
IsNextMissing seen ops from (Some found) =
    filter (is_missing seen) (drop from ops)
    ≡ found.op ∷ filter (is_missing seen) (drop found.behind ops)
