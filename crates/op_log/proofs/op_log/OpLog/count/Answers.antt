use Rattle.std.proofs.Common.{ap, ◌∙◌, length, count_by}
use Rattle.op_log.specs.Log.{Log, is_of}
use Rattle.op_log.proofs.Places.{marks_count}
use Rattle.op_log.proofs.op_log.OpLog.count.Goals as goal

pub returns : goal.returns
returns c =
    let ops = c.self.inside.operations.operations in
    ap length (c.marks_of.ensures ops (rw c.deref.ensures.value c.self.invariant.index))
    ∙ marks_count c.args.origin 0 ops
    ∙ ap (λ (l : Log). count_by (is_of c.args.origin) l.operations) c.self.view_is
