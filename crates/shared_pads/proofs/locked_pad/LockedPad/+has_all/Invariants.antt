-- The calls of `has_all`: the recursion ends: each call has one seat less.
use Rattle.std.proofs.Common.{length}
use Rattle.shared_pads.proofs.locked_pad.LockedPad.+has_all.Given as goal

-- the seats that are left
abbrev pub decreases-has_all : goal.decreases-has_all
decreases-has_all g l = length l.seats.now
