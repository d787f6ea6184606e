-- The loop of `put_runs`: the runs that are left make the rest of the cells, and there is room for them.
use Rattle.std.proofs.Common.{◌≡◌, ◌+◌, ◌≤◌, drop, fold, sum_by, vec_len, vec_capacity}
use Rattle.block_seq.specs.KeptParts.{inserted_size, with_kept_part}
use Rattle.block_seq.proofs.parts.put_runs.Given as goal

-- the runs that are left make the rest, and have room
abbrev pub invariant-loop-part : goal.invariant-loop-part
invariant-loop-part l =
    (fold (with_kept_part l.author l.rev) l.cells.items (drop l.part-index l.parts)
    ≡ fold (with_kept_part l.author l.rev) l.initial.cells.items l.parts)
    × (vec_len l.cells + sum_by inserted_size (drop l.part-index l.parts) ≤ vec_capacity l.cells)
