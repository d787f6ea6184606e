-- the operations that were taken so far lead to where the others are still to be taken
use Rattle.std.proofs.Common.{◌≡◌, ℕ, false}
use Rattle.relay.specs.Kept.{world}
use Rattle.relay.specs.Round.{Reaches}
use Rattle.relay.specs.Round.Stage.{Taking}
use Rattle.relay.specs.Wire.{Wire}
use Rattle.relay.proofs.pull.take_ops.Given as goal

abbrev pub invariant-loop-op : goal.invariant-loop-op
invariant-loop-op g l = record {
  goes : (turn : ℕ) (wire : Wire) → Reaches g.P.Pads.calls g.P.Pads.names (Taking l.pad turn false l.fn.ops)
      (world l.fn.talk l.fn.pads wire)
      (Taking l.pad turn l.gained l.op-iterator.rest.items) (world l.talk l.pads wire);
  cell : (l.talk.cell ≡ l.fn.talk.cell) × (l.talk.cells ≡ l.fn.talk.cells);
}
