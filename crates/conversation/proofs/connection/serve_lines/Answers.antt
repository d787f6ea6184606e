use Rattle.std.proofs.Common.{◌≡◌, Bool, false, Result, Ok, Err, ap, ◌∙◌, refl, subst, sym, arith}
use Rattle.wire_lines.specs.Causes.{with_more}
use Rattle.wire_lines.specs.declared.fault.Fault.{Fault}
use Rattle.wire_lines.specs.declared.fault.Fault.TheVariants.{Memory}
use Rattle.conversation.specs.Talk.{Talk, ahead, silent}
use Rattle.conversation.specs.declared.served.Served.{Served}
use Rattle.conversation.proofs.Causes.{memory_told, read_counted, read_told, write_fails}
use Rattle.conversation.proofs.Conversing.{all_served, cut_breaks, cut_served, more_came, next_breaks, next_served}
use Rattle.conversation.proofs.Serving.{IsServing, begins, runs_out, told_off}
use Rattle.conversation.proofs.Turns.{of_error}
use Rattle.conversation.proofs.connection.serve_lines.Goals as goal

same_fault : (told fault : Fault) → (let r : Result Served Fault = Err told in r) ≡ Err fault → told ≡ fault
same_fault told fault e = cc

pub returns-in-Err-clause-fault : goal.returns-in-Err-clause-fault
returns-in-Err-clause-fault g c =
    told_off g.P.Pads.calls _ _ _ _ _ _ _
    (begins g.P.Pads.calls c.args.pads.now (g.R.Source.remaining c.args.reader.now)
    (g.W.Sink.contents c.args.writer.now))
    c.in-Err.fault c.tell_fault.result _ _ (g.W.Sink.contents c.tell_fault.new.writer) c.tell_fault.ensures

pub returns-in-Err-clause-memory : goal.returns-in-Err-clause-memory
returns-in-Err-clause-memory g c e =
    runs_out g.P.Pads.calls _ _ _ _ _ _ _
    (begins g.P.Pads.calls c.args.pads.now (g.R.Source.remaining c.args.reader.now)
    (g.W.Sink.contents c.args.writer.now))
    c.in-Err.fault c.tell_fault.result _ _ (g.W.Sink.contents c.tell_fault.new.writer) c.tell_fault.ensures
    (same_fault c.tell_fault.result Memory e)

pub loop-writer-init : goal.loop-writer-init
loop-writer-init g c =
    let remaining = g.R.Source.remaining c.args.reader.now in
    let contents = g.W.Sink.contents c.args.writer.now in
    let open_end : c.in-Ok.inlet.ended ≡ false = ap (λ i. i.ended) c.in-Ok.ensures.made in
    record {
      so = subst (λ (t : Talk). IsServing g.P.Pads.calls c.args.pads.now c.args.pads.now remaining
          (ahead t c.in-Ok.inlet.ended remaining) t.served contents contents) (sym c.new-conversation.ensures)
          (subst (λ (e : Bool). IsServing g.P.Pads.calls c.args.pads.now c.args.pads.now remaining
          (ahead silent e remaining) silent.served contents contents) (sym open_end)
          (begins g.P.Pads.calls c.args.pads.now remaining contents));
      uncut = ap (λ (t : Talk). t.cut) c.new-conversation.ensures;
      written = ap (λ (t : Talk). t.replies) c.new-conversation.ensures;
      few = let none : c.in-Ok.inlet.reads ≡ 0 = ap (λ i. i.reads) c.in-Ok.ensures.made in omega (arith, none);
      failures = refl;
      unread = refl;
      counted = sym (ap (with_more (g.R.Source.reads c.args.reader.now)) (ap (λ i. i.reads) c.in-Ok.ensures.made));
    }

pub answer_next-requires-clause-open : goal.answer_next-requires-clause-open
answer_next-requires-clause-open g c = c.loop-writer.invariant.uncut

pub answer_next-requires-clause-written : goal.answer_next-requires-clause-written
answer_next-requires-clause-written g c = c.loop-writer.invariant.written

pub loop-writer-preserved-in-Continue-1 : goal.loop-writer-preserved-in-Continue-1
loop-writer-preserved-in-Continue-1 g c =
    let so = c.loop-writer.invariant in
    let next = rw c.has_ended-ended.ensures at (c.in-Ok-Answered.ensures.answered (ap Ok c.in-Ok-Answered.field-0-is)) in
    let after = c.in_ok-write_replies-in-Ok-Answered.ensures in
    record {
      so = subst (λ (t : Talk). IsServing g.P.Pads.calls c.args.pads.now c.answer_next.new.pads
          (g.R.Source.remaining c.args.reader.now)
          (ahead t c.loop-writer.inlet.ended (g.R.Source.remaining c.loop-writer.reader)) t.served
          (g.W.Sink.contents c.args.writer.now) (g.W.Sink.contents c.write_replies.new.writer)) (sym after.written)
          (next_served g.P.Pads.calls _ _ _ (g.R.Source.remaining c.loop-writer.reader)
          c.loop-writer.conversation c.loop-writer.inlet.ended _ _ so.so c.answer_next.new.pads c.answer_next.new.conversation
          (g.W.Sink.contents c.write_replies.new.writer) so.written next after.whole);
      uncut = ap (λ (t : Talk). t.cut) after.written ∙ next.2.5 ∙ so.uncut;
      written = ap (λ (t : Talk). t.replies) after.written;
      few = so.few;
      failures = after.cause ∙ so.failures;
      unread = so.unread;
      counted = so.counted;
    }

pub returns-in_err-write_replies-in-Ok-Answered-clause-fault :
    goal.returns-in_err-write_replies-in-Ok-Answered-clause-fault
returns-in_err-write_replies-in-Ok-Answered-clause-fault g c =
    let so = c.loop-writer.invariant in
    let next = rw c.has_ended-ended.ensures at (c.in-Ok-Answered.ensures.answered (ap Ok c.in-Ok-Answered.field-0-is)) in
    of_error c.from_residual.result _
    (next_breaks g.P.Pads.calls _ _ _ (g.R.Source.remaining c.loop-writer.reader)
    c.loop-writer.conversation c.loop-writer.inlet.ended _ _ so.so c.answer_next.new.pads c.answer_next.new.conversation
    (g.W.Sink.contents c.write_replies.new.writer) so.written next c.in_err-write_replies-in-Ok-Answered.ensures.front)

pub returns-in_err-write_replies-in-Ok-Answered-clause-cause :
    goal.returns-in_err-write_replies-in-Ok-Answered-clause-cause
returns-in_err-write_replies-in-Ok-Answered-clause-cause g c =
    let so = c.loop-writer.invariant in
    write_fails Served c.from_residual.result c.in_err-write_replies-in-Ok-Answered.field-0.0 _ _ _ _ _ _ _
    c.from_residual.ensures.1 so.unread so.failures c.in_err-write_replies-in-Ok-Answered.ensures.cause

pub returns-in_err-write_replies-in-Ok-Cut-clause-fault : goal.returns-in_err-write_replies-in-Ok-Cut-clause-fault
returns-in_err-write_replies-in-Ok-Cut-clause-fault g c =
    let so = c.loop-writer.invariant in
    let long = c.in-Ok-Cut.ensures.long (ap Ok c.in-Ok-Cut.field-0-is) in
    of_error c.from_residual-in_err-write_replies-in-Ok-Cut.result _
    (rw long.1 (cut_breaks g.P.Pads.calls _ _ _ (g.R.Source.remaining c.loop-writer.reader)
    c.loop-writer.conversation c.loop-writer.inlet.ended _ _ so.so c.answer_next.new.conversation
    (g.W.Sink.contents c.write_replies-in-Ok-Cut.new.writer) so.written long.0
    c.in_err-write_replies-in-Ok-Cut.ensures.front))

pub returns-in_err-write_replies-in-Ok-Cut-clause-cause : goal.returns-in_err-write_replies-in-Ok-Cut-clause-cause
returns-in_err-write_replies-in-Ok-Cut-clause-cause g c =
    let so = c.loop-writer.invariant in
    write_fails Served c.from_residual-in_err-write_replies-in-Ok-Cut.result
    c.in_err-write_replies-in-Ok-Cut.field-0.0 _ _ _ _ _ _ _ c.from_residual-in_err-write_replies-in-Ok-Cut.ensures.1
    so.unread so.failures c.in_err-write_replies-in-Ok-Cut.ensures.cause

pub returns-in-Ok-Cut-clause-all : goal.returns-in-Ok-Cut-clause-all
returns-in-Ok-Cut-clause-all g c =
    let so = c.loop-writer.invariant in
    let long = c.in-Ok-Cut.ensures.long (ap Ok c.in-Ok-Cut.field-0-is) in
    let after = c.in_ok-write_replies-in-Ok-Cut.ensures in
    rw c.served.ensures (rw after.written (rw long.1 (cut_served g.P.Pads.calls _ _ _ (g.R.Source.remaining c.loop-writer.reader)
    c.loop-writer.conversation c.loop-writer.inlet.ended _ _ so.so
    c.answer_next.new.conversation (g.W.Sink.contents c.write_replies-in-Ok-Cut.new.writer) so.written long.0
    after.whole)))

pub returns-in-Ok-Cut-clause-cause : goal.returns-in-Ok-Cut-clause-cause
returns-in-Ok-Cut-clause-cause g c =
    let so = c.loop-writer.invariant in
    (so.unread, c.in_ok-write_replies-in-Ok-Cut.ensures.cause ∙ so.failures)

pub returns-then-ended-clause-all : goal.returns-then-ended-clause-all
returns-then-ended-clause-all g c =
    let so = c.loop-writer.invariant in
    let waits = c.in-Ok-Waits.ensures.waits (ap Ok c.in-Ok-Waits.field-0-is) in
    let none = (rw c.if-ended.true at (c.in-Ok-Waits.ensures.end (ap Ok c.in-Ok-Waits.field-0-is))) in
    rw c.served-then-ended.ensures (rw waits.0 (rw waits.1 (all_served g.P.Pads.calls _ _ _ (g.R.Source.remaining c.loop-writer.reader)
    c.loop-writer.conversation c.loop-writer.inlet.ended _ _ so.so
    (sym c.has_ended-ended.ensures ∙ c.if-ended.true) (ap (λ (t : Talk). t.waiting) (sym waits.0) ∙ none))))

pub returns-then-ended-clause-cause : goal.returns-then-ended-clause-cause
returns-then-ended-clause-cause g c = (c.loop-writer.invariant.unread, c.loop-writer.invariant.failures)

pub returns-in-Err-receive_from-clause-fault : goal.returns-in-Err-receive_from-clause-fault
returns-in-Err-receive_from-clause-fault g c =
    let so = c.loop-writer.invariant in
    let waits = c.in-Ok-Waits.ensures.waits (ap Ok c.in-Ok-Waits.field-0-is) in
    rw waits.1 (told_off g.P.Pads.calls _ _ _ _ _ _ _ so.so c.in-Err-receive_from.fault
    c.tell_fault-in-Err-receive_from.result _ _ (g.W.Sink.contents c.tell_fault-in-Err-receive_from.new.writer)
    c.tell_fault-in-Err-receive_from.ensures)

pub returns-in-Err-receive_from-clause-memory : goal.returns-in-Err-receive_from-clause-memory
returns-in-Err-receive_from-clause-memory g c e =
    let so = c.loop-writer.invariant in
    let waits = c.in-Ok-Waits.ensures.waits (ap Ok c.in-Ok-Waits.field-0-is) in
    rw waits.1 (runs_out g.P.Pads.calls _ _ _ _ _ _ _ so.so c.in-Err-receive_from.fault
    c.tell_fault-in-Err-receive_from.result _ _ (g.W.Sink.contents c.tell_fault-in-Err-receive_from.new.writer)
    c.tell_fault-in-Err-receive_from.ensures (same_fault c.tell_fault-in-Err-receive_from.result Memory e))

pub returns-in-Err-receive_from-clause-cause : goal.returns-in-Err-receive_from-clause-cause
returns-in-Err-receive_from-clause-cause g c =
    let so = c.loop-writer.invariant in
    read_told Served (Unit {0}) (Unit {0}) c.in-Err-receive_from.fault c.tell_fault-in-Err-receive_from.result _ _ _ _ _ _ _ _ _ _ _ _ _
    c.in-Err-receive_from.ensures.cause c.in-Err-receive_from.ensures.counted so.unread so.counted so.failures
    c.tell_fault-in-Err-receive_from.ensures

pub returns-in-Err-answer_next-clause-fault : goal.returns-in-Err-answer_next-clause-fault
returns-in-Err-answer_next-clause-fault g c =
    let so = c.loop-writer.invariant in
    rw c.in-Err-answer_next.ensures.err.1 (told_off g.P.Pads.calls _ _ _ _ _ _ _ so.so c.in-Err-answer_next.fault
    c.tell_fault-in-Err-answer_next.result _ _ (g.W.Sink.contents c.tell_fault-in-Err-answer_next.new.writer)
    c.tell_fault-in-Err-answer_next.ensures)

pub returns-in-Err-answer_next-clause-memory : goal.returns-in-Err-answer_next-clause-memory
returns-in-Err-answer_next-clause-memory g c e =
    let so = c.loop-writer.invariant in
    rw c.in-Err-answer_next.ensures.err.1 (runs_out g.P.Pads.calls _ _ _ _ _ _ _ so.so c.in-Err-answer_next.fault
    c.tell_fault-in-Err-answer_next.result _ _ (g.W.Sink.contents c.tell_fault-in-Err-answer_next.new.writer)
    c.tell_fault-in-Err-answer_next.ensures (same_fault c.tell_fault-in-Err-answer_next.result Memory e))

pub returns-in-Err-answer_next-clause-cause : goal.returns-in-Err-answer_next-clause-cause
returns-in-Err-answer_next-clause-cause g c =
    let so = c.loop-writer.invariant in
    memory_told Served c.in-Err-answer_next.fault c.tell_fault-in-Err-answer_next.result _ _ _ _ _ _ _ _ _
    c.in-Err-answer_next.ensures.fault so.unread so.failures c.tell_fault-in-Err-answer_next.ensures

pub loop-writer-preserved : goal.loop-writer-preserved
loop-writer-preserved g c =
    let so = c.loop-writer.invariant in
    let waits = c.in-Ok-Waits.ensures.waits (ap Ok c.in-Ok-Waits.field-0-is) in
    let only = rw waits.0 at c.receive_from.ensures.only in
    let bytes = rw waits.0 at c.receive_from.ensures.bytes in
    let ok = c.in_default.ensures in
    record {
      so = rw waits.1 (more_came g.P.Pads.calls _ _ _ (g.R.Source.remaining c.loop-writer.reader)
          c.loop-writer.conversation c.loop-writer.inlet.ended _ _ so.so c.receive_from.new.self c.receive_from.new.inlet.ended
          (g.R.Source.remaining c.receive_from.new.source)
          (sym c.has_ended-ended.ensures ∙ c.if-ended.false) (ap (λ (t : Talk). t.served) only) bytes);
      uncut = ap (λ (t : Talk). t.cut) only ∙ so.uncut;
      written = ap (λ (t : Talk). t.replies) only ∙ so.written;
      few = ok.few;
      failures = so.failures;
      unread = ok.cause ∙ so.unread;
      counted = read_counted (Unit {0}) tt _ _ _ _ _ ok.counted so.counted;
    }
