-- The calls of `are_apart`: the recursion ends: each call has one seat less.
use Rattle.std.proofs.Common.{length}
use Rattle.shared_pads.proofs.sums.+are_apart.Given as goal

-- the seats that are left
abbrev pub decreases-are_apart : goal.decreases-are_apart
decreases-are_apart l = length l.seats.now
