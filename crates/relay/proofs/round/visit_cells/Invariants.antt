-- the cells so far lead to the next one
use Rattle.std.proofs.Common.{◌-◌, ◌<◌}
use Rattle.relay.specs.Kept.{ready, world}
use Rattle.relay.specs.Round.{Reaches}
use Rattle.relay.specs.Round.Stage.{Next}
use Rattle.relay.proofs.round.visit_cells.Given as goal

abbrev pub invariant-loop-talk : goal.invariant-loop-talk
invariant-loop-talk g l = record {
  goes : Reaches g.P.Pads.calls g.P.Pads.names Next
      (ready l.fn.version (g.P.Pads.width l.fn.pads) l.fn.known l.fn.pads (g.L.LineExchange.wire l.fn.link))
      Next (world l.talk l.pads (g.L.LineExchange.wire l.link));
  fits : l.talk.cells < 4294967296;
}

-- the cells that are left
abbrev pub decreases-loop-talk : goal.decreases-loop-talk
decreases-loop-talk g l = l.talk.cells - l.talk.cell
