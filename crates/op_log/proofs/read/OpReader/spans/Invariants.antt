-- The loop of `spans`: those read so far and those that the rest gives are all.
use Rattle.op_log.specs.Read.{read_span, read_spans}
use Rattle.op_log.proofs.Loops.{IsReading}
use Rattle.op_log.proofs.read.OpReader.spans.Given as goal

abbrev pub invariant-loop-n : goal.invariant-loop-n
invariant-loop-n l = IsReading _ read_span l.count l._n l.spans.items l.self (read_spans l.fn.self)
