use Rattle.op_log.specs.Read.{read_character, read_text}
use Rattle.op_log.proofs.Loops.{reading_more}
use Rattle.op_log.proofs.read.OpReader.text.Goals as goal

pub loop-n-preserved : goal.loop-n-preserved
loop-n-preserved c =
    rw c.in_ok-push.ensures.items (reading_more read_character c.number-count.result c.loop-n._n c.loop-n.text.items
    c.loop-n.self c.character.new.self c.character.result (read_text c.args.self.now) c.loop-n-test.true c.character.ensures.value
    c.character.ensures.rest c.loop-n.invariant)
