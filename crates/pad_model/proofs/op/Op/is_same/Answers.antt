use Rattle.pad_model.proofs.CheckedLemmas.{op_decides}
use Rattle.pad_model.proofs.op.Op.is_same.Goals as goal

pub returns : goal.returns
returns c = rw c.eq.ensures (op_decides c.args.self.now c.args.other.now)
