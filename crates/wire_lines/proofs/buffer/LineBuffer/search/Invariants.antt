-- The loop of `search`: no byte to come was lost, no call has failed, and the loop ends.
use Rattle.std.proofs.Common.{◌≡◌, ◌≤◌}
use Rattle.std.specs.Io.KnownBytes.{Keeps}
use Rattle.wire_lines.specs.Buffer.{ahead, budget}
use Rattle.wire_lines.specs.contracts.buffer.LineBuffer.{the_view}
use Rattle.wire_lines.proofs.Counts.{Counted}
use Rattle.wire_lines.proofs.buffer.LineBuffer.search.Given as goal

-- nothing of what is to come was lost, and no call has failed
abbrev pub invariant-loop-found : goal.invariant-loop-found
invariant-loop-found g l = record {
  kept : Keeps (ahead l.fn.self (g.R.Source.remaining l.fn.source))
      (ahead (the_view l.self-inside) (g.R.Source.remaining l.source));
  less : budget (the_view l.self-inside) ≤ budget l.fn.self;
  fault : l.self-inside.fault ≡ l.fn.self.fault;
  failures : g.R.Source.failures l.source ≡ g.R.Source.failures l.fn.source;
  counted : Counted (g.R.Source.reads l.fn.source) (g.R.Source.reads l.source) l.fn.self.reads
      l.self-inside.inlet.reads;
}

abbrev pub decreases-loop-found : goal.decreases-loop-found
decreases-loop-found g l = budget (the_view l.self-inside)
