-- The loop of `seen`: the counts read so far and those that the rest gives are all.
use Rattle.op_log.specs.Read.{read_seen}
use Rattle.op_log.proofs.Loops.{IsCounting}
use Rattle.op_log.proofs.read.OpReader.seen.Given as goal

abbrev pub invariant-loop-n : goal.invariant-loop-n
invariant-loop-n l = IsCounting l.count l._n l.seen l.self (read_seen l.fn.self)
