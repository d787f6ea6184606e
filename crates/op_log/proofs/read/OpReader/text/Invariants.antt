-- The loop of `text`: those read so far and those that the rest gives are all.
use Rattle.op_log.specs.Read.{read_character, read_text}
use Rattle.op_log.proofs.Loops.{IsReading}
use Rattle.op_log.proofs.read.OpReader.text.Given as goal

abbrev pub invariant-loop-n : goal.invariant-loop-n
invariant-loop-n l = IsReading _ read_character l.count l._n l.text.items l.self (read_text l.fn.self)
