-- The loop of `Exchange::new`: there is a bell for each thread so far.
use Rattle.std.proofs.Common.{◌≡◌, length}
use Rattle.peering.proofs.exchange.Exchange.new.Given as goal

-- there is a bell for each thread so far
abbrev pub invariant-loop-place : goal.invariant-loop-place
invariant-loop-place l = length l.bells.items ≡ l._place
