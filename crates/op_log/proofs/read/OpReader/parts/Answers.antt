use Rattle.op_log.specs.Read.{read_part, read_parts}
use Rattle.op_log.proofs.Loops.{reading_more}
use Rattle.op_log.proofs.read.OpReader.parts.Goals as goal

pub loop-n-preserved : goal.loop-n-preserved
loop-n-preserved c =
    rw c.in_ok-push.ensures.items (reading_more read_part c.number-count.result c.loop-n._n c.loop-n.parts.items
    c.loop-n.self c.part.new.self c.in_ok-part.field-0 (read_parts c.args.self.now) c.loop-n-test.true c.in_ok-part.ensures.value
    c.in_ok-part.ensures.rest c.loop-n.invariant)
