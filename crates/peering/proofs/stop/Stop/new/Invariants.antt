-- The loop of `Stop::new`: there is room for the socket to each peer so far.
use Rattle.std.proofs.Common.{◌≡◌, length}
use Rattle.peering.proofs.stop.Stop.new.Given as goal

-- there is room for the socket to each peer so far
abbrev pub invariant-loop-peer : goal.invariant-loop-peer
invariant-loop-peer l = length l.sockets.items ≡ l._peer
