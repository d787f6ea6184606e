use Rattle.op_log.specs.Read.{read_seen}
use Rattle.op_log.proofs.Loops.{counting_more}
use Rattle.op_log.proofs.read.OpReader.seen.Goals as goal

pub loop-n-preserved : goal.loop-n-preserved
loop-n-preserved c =
    counting_more c.number-count.result c.loop-n._n c.loop-n.seen c.set.new.self c.loop-n.self c.counted-pair.new.self
    c.counted-pair.result (read_seen c.args.self.now) c.loop-n-test.true c.counted-pair.ensures.value
    c.counted-pair.ensures.rest c.in_ok-set.ensures.ok c.loop-n.invariant
