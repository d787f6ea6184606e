-- The loop of `scan_blocks`: the scan passes all blocks up to here.
use Rattle.std.proofs.Common.{◌≡◌, ◌+◌, drop}
use Rattle.block_seq.specs.Rows.{passes}
use Rattle.block_seq.proofs.run_place.scan_blocks.Given as goal

-- the blocks so far are passed
abbrev pub invariant-loop-rank : goal.invariant-loop-rank
invariant-loop-rank l = l.start + passes l.first (drop l.start l.tree.items) ≡ l.rank
    + passes l.first (drop l.rank l.tree.items)
