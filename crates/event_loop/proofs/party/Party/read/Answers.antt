use Rattle.std.proofs.Common.{rules, ◌≡◌, false, is_err}
use Rattle.event_loop.specs.declared.party.Stage.TheVariants.{Talks}
use Rattle.event_loop.proofs.Steps.{on_ok, reads_lines, reads_request, reads_socket}
use Rattle.event_loop.proofs.party.Party.read.Goals.{in-Lines, in-PageRequest, in-Socket}
use Rattle.event_loop.proofs.party.Party.read.Goals as goal

pub returns-else-is_err : goal.returns-else-is_err
returns-else-is_err g c =
    let talks : c.self.inside.stage ≡ Talks = search rules in
    let fine : is_err c.match-self.read ≡ false = search rules in
    elim c.match-self.branch [
      | in-Lines w ↦
          let ok : is_err w.read_into-read.result ≡ false = rw w.read-is at fine in
          rw (w.self-inside-is, ← c.self.view_is)
          (reads_lines _ w.read_into-read.new.intake _ talks w.in-Lines.is
          (on_ok w.read_into-read.result ok w.read_into-read.ensures.keeps)
          (on_ok w.read_into-read.result ok w.read_into-read.ensures.gives) _ w.read_into-read.ensures.written)
      | in-PageRequest w ↦
          let ok : is_err w.read_into-read-in-PageRequest.result ≡ false = rw w.read-is at fine in
          rw (w.self-inside-is, ← c.self.view_is)
          (reads_request _ w.in-PageRequest.request w.read_into-read-in-PageRequest.new.intake _ talks w.in-PageRequest.is
          (on_ok w.read_into-read-in-PageRequest.result ok w.read_into-read-in-PageRequest.ensures.keeps)
          (on_ok w.read_into-read-in-PageRequest.result ok w.read_into-read-in-PageRequest.ensures.gives) _ w.read_into-read-in-PageRequest.ensures.written)
      | in-Socket w ↦
          let ok : is_err w.read_into-read-in-Socket.result ≡ false = rw w.read-is at fine in
          rw (w.self-inside-is, ← c.self.view_is)
          (reads_socket _ w.in-Socket.frames w.read_into-read-in-Socket.new.intake _ talks w.in-Socket.is
          (on_ok w.read_into-read-in-Socket.result ok w.read_into-read-in-Socket.ensures.keeps)
          (on_ok w.read_into-read-in-Socket.result ok w.read_into-read-in-Socket.ensures.gives) _ w.read_into-read-in-Socket.ensures.written)
    ]
