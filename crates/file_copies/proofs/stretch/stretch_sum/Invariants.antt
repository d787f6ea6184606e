-- The loop of `stretch_sum`: the lines that are left have, behind the sum so far, the sum that all have.
use Rattle.std.proofs.Common.{◌≡◌, length, string_bytes}
use Rattle.file_copies.specs.Stretches.{stretch_sum}
use Rattle.file_copies.proofs.stretch.stretch_sum.Given as goal

-- the lines that are left have, behind the sum so far, the sum that all have
abbrev pub invariant-loop-end : goal.invariant-loop-end
invariant-loop-end l = stretch_sum (string_bytes l.sum) l.rest ≡ stretch_sum l.fn.before l.fn.bytes

abbrev pub decreases-loop-end : goal.decreases-loop-end
decreases-loop-end l = length l.rest
