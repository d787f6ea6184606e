use Rattle.std.proofs.Common.{Err, inr, refl, ap, ◌∙◌, ◌++◌}
use Rattle.pad_model.specs.declared.refusal.Refusal.TheVariants.{Memory}
use Rattle.conversation.proofs.reply.put_answer.Goals as goal

pub returns-clause-put : goal.returns-clause-put
returns-clause-put g c = (
  Err Memory,
  inr refl,
  refl,
  c.put.ensures ∙ ap (λ l. l ++ c.memory_line.result.now) (c.put_whole-whole.ensures.none c.if-whole.false).0
      ∙ ap (λ l. c.args.replies.now.items ++ l) c.memory_line.ensures,
)
