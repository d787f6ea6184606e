-- The loop of `item_in`: so many items were passed over.
use Rattle.std.proofs.Common.{◌≡◌}
use Rattle.op_log.specs.Page.{behind}
use Rattle.op_log.proofs.page.item_in.Given as goal

abbrev pub invariant-loop-n : goal.invariant-loop-n
invariant-loop-n l = l.rest ≡ behind l._n l.bytes
