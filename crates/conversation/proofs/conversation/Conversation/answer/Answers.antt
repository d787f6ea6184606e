use Rattle.std.proofs.Common.{Err, Some, refl, ap, ◌∙◌, subst, sym, ◌++◌}
use Rattle.pad_model.specs.declared.refusal.Refusal.TheVariants as refusal
use Rattle.wire_lines.specs.Buffer.{ShowsBefore}
use Rattle.wire_lines.specs.declared.buffer.FoundLine.TheVariants.{Text, TooLong}
use Rattle.conversation.specs.Delivered.{counted}
use Rattle.conversation.specs.Session.{texts}
use Rattle.conversation.proofs.Talks.{put_behind}
use Rattle.conversation.proofs.Turns.{text_of_one}
use Rattle.conversation.proofs.conversation.Conversation.answer.Goals as goal

pub returns-in-Some-TooLong : goal.returns-in-Some-TooLong
returns-in-Some-TooLong g c =
    let found = rw c.in-Some-TooLong.field-0-is at c.in-Some-TooLong.ensures.found in
    record {
      answered = λ e. cc;
      shorter = λ e. cc;
      long = λ e. (
        (
          c.next_line.new.self.line,
          subst (λ w. ShowsBefore TooLong w c.next_line.new.self.line c.next_line.new.self.waiting)
              (ap (λ t. t.waiting) c.self.view_is) found,
          (
            put_behind c.self.inside.replies.items c.put.new.replies.items _ _ _ c.self.inside.sent
                (c.put.ensures ∙ ap (λ l. l ++ c.too_long_line.result.now) c.make_room.ensures.items) c.self.invariant.0
                (ap (λ t. t.replies) c.self.view_is) (c.too_long_line.ensures ∙ sym (text_of_one (Err refusal.TooLong))),
            c.with-self-inside-in-Some-TooLong.ensures ∙ ap (λ t. counted t.served (Some 0)) c.self.view_is,
          ),
          refl,
        ),
        refl,
      );
      waits = λ e. cc;
      full = λ e. cc;
      err = tt;
      fault = tt;
    }

pub returns-in-Some-Text-clause-answered : goal.returns-in-Some-Text-clause-answered
returns-in-Some-Text-clause-answered g c e =
    let found = rw c.in-Some-Text.field-0-is at c.in-Some-Text.ensures.found in
    let line = rw c.line-line.ensures at c.tell-told.ensures in (
      c.next_line.new.self.line,
      subst (λ w. ShowsBefore Text w c.next_line.new.self.line c.next_line.new.self.waiting)
          (ap (λ t. t.waiting) c.self.view_is) found,
      (
        c.tell-told.result,
        line.0,
        line.1,
        line.2,
        (
          put_behind c.self.inside.replies.items c.tell-told.new.replies.items _ _ _ c.self.inside.sent
              (line.3 ∙ ap (λ l. l ++ texts line.0) c.make_room.ensures.items) c.self.invariant.0
              (ap (λ t. t.replies) c.self.view_is) refl,
          c.with-self-inside.ensures ∙ ap (λ t. counted t.served c.tell-told.result) c.self.view_is,
        ),
        ap (λ t. t.cut) c.self.view_is,
      ),
    )
