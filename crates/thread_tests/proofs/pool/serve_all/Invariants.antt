-- The loop of `serve_all`: the connections so far were served in turn.
use Rattle.thread_tests.specs.Pool.{ServesInTurn}
use Rattle.thread_tests.proofs.pool.serve_all.Given as goal

-- so far connections were served in turn
abbrev pub invariant-loop : goal.invariant-loop
invariant-loop g l = ServesInTurn g.P.Pads.calls g.P.Pads.ends l.fn.pads l.pads
