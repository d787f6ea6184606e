-- the operations so far were given
use Rattle.std.proofs.Common.{◌≡◌, drop}
use Rattle.relay.proofs.Pushes.{GivenSo}
use Rattle.relay.proofs.push.give_all.Given as goal

abbrev pub invariant-loop-op : goal.invariant-loop-op
invariant-loop-op g l = record {
  goes : GivenSo g.P.Pads.calls g.P.Pads.names l.pad l.fn.ops l.fn.after l.after l.due (drop l.op-index l.fn.ops)
      l.fn.talk (g.L.LineExchange.wire l.fn.link) l.talk (g.L.LineExchange.wire l.link);
  count : l.due ≡ l.op-index;
  cell : (l.talk.cell ≡ l.fn.talk.cell) × (l.talk.cells ≡ l.fn.talk.cells);
}
