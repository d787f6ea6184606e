use Rattle.std.proofs.Common.{arith}
use Rattle.op_log.proofs.shelf.Shelf.prepare.Goals as goal

pub invariant_of-self-2 : goal.invariant_of-self-2
invariant_of-self-2 c = record {
  last = rw c.prepare.ensures.items c.self.invariant.last;
  count = rw (c.in_ok-reserve.ensures.items, c.prepare.ensures.items) c.self.invariant.count;
  room = λ e. omega (arith, c.in_ok-reserve.ensures.ok);
  countable = λ e. omega (arith, c.if-self.false, c.self.ranges);
}
