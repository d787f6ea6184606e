-- The loop of `serve_lines`: the lines so far are answered, the replies are written, no call has failed, and it ends.
use Rattle.std.proofs.Common.{◌≡◌, ◌≤◌, ◌+◌, ◌-◌, ◌*◌, [], false, length}
use Rattle.wire_lines.specs.Causes.{with_more}
use Rattle.wire_lines.specs.declared.inlet.TheConstants.{MAX_READS}
use Rattle.conversation.specs.Talk.{ahead}
use Rattle.conversation.proofs.Serving.{IsServing}
use Rattle.conversation.proofs.connection.serve_lines.Given as goal

-- the lines so far are answered, the replies are written, and no call has failed
abbrev pub invariant-loop-writer : goal.invariant-loop-writer
invariant-loop-writer g l = record {
  so : IsServing g.P.Pads.calls l.fn.pads l.pads (g.R.Source.remaining l.fn.reader)
      (ahead l.conversation l.inlet.ended (g.R.Source.remaining l.reader)) l.conversation.served
      (g.W.Sink.contents l.fn.writer) (g.W.Sink.contents l.writer);
  uncut : l.conversation.cut ≡ false;
  written : l.conversation.replies ≡ [];
  few : l.inlet.reads ≤ MAX_READS;
  failures : g.W.Sink.failures l.writer ≡ g.W.Sink.failures l.fn.writer;
  unread : g.R.Source.failures l.reader ≡ g.R.Source.failures l.fn.reader;
  counted : g.R.Source.reads l.reader ≡ with_more (g.R.Source.reads l.fn.reader) l.inlet.reads;
}

-- the bytes and reads that are left
abbrev pub decreases-loop-writer : goal.decreases-loop-writer
decreases-loop-writer g l = length l.conversation.waiting + (MAX_READS - l.inlet.reads) * 65537
