-- The loop of `next_line`: what was read so far gave no line, and fewer bytes wait after each frame.
use Rattle.std.proofs.Common.{◌≡◌, false, [], length}
use Rattle.web_wire.specs.Socket.{GoesOn}
use Rattle.web_wire.proofs.frames.Frames.next_line.Given as goal

abbrev pub invariant-loop : goal.invariant-loop
invariant-loop l = record {
  goes_on : GoesOn [] l.fn.self l.fn.output.items l.self l.output.items;
  going : l.self.ended ≡ false;
  line : l.line.items ≡ l.fn.line.items;
}

abbrev pub decreases-loop : goal.decreases-loop
decreases-loop l = length l.self.waiting
