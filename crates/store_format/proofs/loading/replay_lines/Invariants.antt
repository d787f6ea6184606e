-- The loop of `replay_lines`: the lines that are left lead from the pad so far to where all lead, and the loop ends.
use Rattle.std.proofs.Common.{◌+◌, ◌++◌, suc, length}
use Rattle.store_format.specs.Files.{read_lines, so_far}
use Rattle.store_format.specs.Lines.{whole_lines}
use Rattle.store_format.proofs.Feeds.{Kept}
use Rattle.store_format.proofs.loading.replay_lines.Given as goal

-- the lines that are left lead from the pad so far to where all lead, and neither a line nor a byte is counted twice
abbrev pub invariant-loop-end : goal.invariant-loop-end
invariant-loop-end g l =
    Kept l.number l.fn.name (so_far l.pad l.last) l.rest
    (λ later. read_lines (suc l.fn.before) l.fn.name (so_far l.fn.pad l.fn.first) (whole_lines l.fn.bytes ++ later))
    (l.fn.first.whole + length l.fn.bytes) (l.fn.before + length l.fn.bytes)

abbrev pub decreases-loop-end : goal.decreases-loop-end
decreases-loop-end g l = length l.rest
