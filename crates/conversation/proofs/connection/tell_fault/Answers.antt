use Rattle.std.proofs.Common.{inl, refl, subst, sym}
use Rattle.std.specs.Io.KnownBytes.{Appends}
use Rattle.wire_lines.specs.declared.fault.Fault.TheVariants.{Memory}
use Rattle.conversation.specs.Connection.{TellsFault}
use Rattle.conversation.proofs.connection.tell_fault.Goals as goal

pub returns-in-Ok : goal.returns-in-Ok
returns-in-Ok g c =
    let before = g.W.Sink.contents c.args.writer.now in
    let after = g.W.Sink.contents c.write_all.new.writer in
    let whole = subst (Appends before after) c.memory_line.ensures c.in-Ok.ensures.whole in
    subst (λ fault. TellsFault fault Memory (g.W.Sink.failures c.args.writer.now)
    (g.W.Sink.failures c.write_all.new.writer) before after) (sym c.in-Memory.is)
    (inl (refl, c.in-Ok.ensures.none, whole))
