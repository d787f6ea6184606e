-- so many answers were heard
use Rattle.std.proofs.Common.{◌≡◌, ◌-◌}
use Rattle.relay.proofs.Pushes.{HeardSo}
use Rattle.relay.proofs.push.hear_all.Given as goal

abbrev pub invariant-loop : goal.invariant-loop
invariant-loop g l = record {
  goes : HeardSo g.P.Pads.calls g.P.Pads.names l.due (l.due - l.counter) l.gained l.all
      l.fn.talk (g.L.LineExchange.wire l.fn.link) l.talk (g.L.LineExchange.wire l.link);
  cell : (l.talk.cell ≡ l.fn.talk.cell) × (l.talk.cells ≡ l.fn.talk.cells);
}
