-- The loop of `has_span`: the characters of the span passed so far are there, and the loop ends.
use Rattle.std.proofs.Common.{ℕ, ◌<◌, ◌-◌}
use Rattle.pad_model.specs.Stamp.{Stamp}
use Rattle.ident_index.specs.Index.{Holds, stamp_behind}
use Rattle.block_seq.proofs.row_erase.has_span.Given as goal

-- what was passed is there
abbrev pub invariant-loop-done : goal.invariant-loop-done
invariant-loop-done l = (k : ℕ) → k < l.done → (first : Stamp) × Holds l.index first (stamp_behind l.span.first k)

abbrev pub decreases-loop-done : goal.decreases-loop-done
decreases-loop-done l = l.span.len - l.done
