-- The loop of `parts`: those read so far and those that the rest gives are all.
use Rattle.op_log.specs.Read.{read_part, read_parts}
use Rattle.op_log.proofs.Loops.{IsReading}
use Rattle.op_log.proofs.read.OpReader.parts.Given as goal

abbrev pub invariant-loop-n : goal.invariant-loop-n
invariant-loop-n l = IsReading _ read_part l.count l._n l.parts.items l.self (read_parts l.fn.self)
