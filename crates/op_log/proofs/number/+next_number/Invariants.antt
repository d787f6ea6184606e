use Rattle.std.proofs.Common.{length}
use Rattle.op_log.proofs.number.+next_number.Given as goal

abbrev pub decreases-next_number : goal.decreases-next_number
decreases-next_number l = length l.bytes.now
