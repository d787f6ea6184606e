use Rattle.wire_json.proofs.OpAgain.{reads_again}
use Rattle.wire_json.proofs.laws.read_again_law.Goals as goal

pub returns : goal.returns
returns c = reads_again
