-- the turns so far lead to the next one
use Rattle.std.proofs.Common.{◌≡◌}
use Rattle.relay.specs.Kept.{world}
use Rattle.relay.specs.Round.{Reaches}
use Rattle.relay.specs.Round.Stage.{Pulling}
use Rattle.relay.proofs.pull.pull_pad.Given as goal

abbrev pub invariant-loop-turn : goal.invariant-loop-turn
invariant-loop-turn g l = record {
  goes : Reaches g.P.Pads.calls g.P.Pads.names (Pulling l.pad 0)
      (world l.fn.talk l.fn.pads (g.L.LineExchange.wire l.fn.link))
      (Pulling l.pad l.turn) (world l.talk l.pads (g.L.LineExchange.wire l.link));
  cell : (l.talk.cell ≡ l.fn.talk.cell) × (l.talk.cells ≡ l.fn.talk.cells);
}
