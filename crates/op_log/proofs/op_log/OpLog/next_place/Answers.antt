use Rattle.std.proofs.Common.{refl, sym, ◌∙◌, slice_get}
use Rattle.op_log.proofs.Next.{next_here}
use Rattle.op_log.proofs.op_log.OpLog.next_place.Goals as goal

pub returns-then-is_missing_at : goal.returns-then-is_missing_at
returns-then-is_missing_at c =
    next_here c.args.seen.now c.args.from c.args.self.now.operations (slice_get c.args.self.now.operations c.args.from)
    refl (sym c.is_missing_at.ensures ∙ c.if-is_missing_at.true)
