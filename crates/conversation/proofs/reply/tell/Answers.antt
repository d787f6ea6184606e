use Rattle.std.proofs.Common.{[], ◌∷◌, refl, sym, ap, ◌∙◌, ◌++◌}
use Rattle.conversation.proofs.Turns.{one_answered, text_of_one}
use Rattle.conversation.proofs.reply.tell.Goals as goal

pub returns : goal.returns
returns g c =
    let put = c.put_answer.ensures.put in (
      put.0 ∷ [],
      one_answered g.P.Pads.calls c.args.pads.now c.answer_line-answer.new.pads c.args.line.now put.0
          (sym c.is_empty.ensures ∙ c.if-is_empty.false) (c.answer_line-answer.result, c.answer_line-answer.ensures, put.1),
      (put.0, refl, put.2),
      put.3 ∙ ap (λ t. c.args.replies.now.items ++ t) (sym (text_of_one put.0)),
    )
