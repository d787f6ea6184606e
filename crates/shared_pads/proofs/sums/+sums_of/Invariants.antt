-- The calls of `sums_of`: the recursion ends: each call has one seat less.
use Rattle.std.proofs.Common.{length}
use Rattle.shared_pads.proofs.sums.+sums_of.Given as goal

-- the seats that are left
abbrev pub decreases-sums_of : goal.decreases-sums_of
decreases-sums_of l = length l.seats.now
