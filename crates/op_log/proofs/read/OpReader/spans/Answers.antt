use Rattle.op_log.specs.Read.{read_span, read_spans}
use Rattle.op_log.proofs.Loops.{reading_more}
use Rattle.op_log.proofs.read.OpReader.spans.Goals as goal

pub loop-n-preserved : goal.loop-n-preserved
loop-n-preserved c =
    rw c.in_ok-push.ensures.items (reading_more read_span c.number-count.result c.loop-n._n c.loop-n.spans.items
    c.loop-n.self c.span.new.self c.span.result (read_spans c.args.self.now) c.loop-n-test.true c.span.ensures.value
    c.span.ensures.rest c.loop-n.invariant)
