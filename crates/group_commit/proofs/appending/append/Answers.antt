-- What was added and written is in the file, since a sync changes no bytes.
use Rattle.std.proofs.Common.{sym}
use Rattle.group_commit.proofs.appending.append.Goals as goal

pub returns-in-Ok-clause-lines : goal.returns-in-Ok-clause-lines
returns-in-Ok-clause-lines g c = record {
  full = c.add_notes.new.writer;
  adds = rw (sym c.as_slice.ensures.value) c.in_ok-add_notes.ensures;
  written = c.in_ok-write.ensures.written.0;
  appends = rw c.in-Ok.ensures.stays c.in_ok-write.ensures.written.1;
}
