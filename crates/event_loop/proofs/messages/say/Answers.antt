use Rattle.std.proofs.Common.{ap, ◌∙◌}
use Rattle.event_loop.proofs.Said.{says_first}
use Rattle.event_loop.proofs.messages.say.Goals as goal

pub returns-clause-said : goal.returns-clause-said
returns-clause-said c e =
    says_first c.args.conversation.now.replies c.args.output.now.items c.put_message.new.output.items
    c.sent.new.self.replies c.in-Some.end (rw c.replies-replies.ensures at c.in-Some.ensures.first)
    (ap (λ t. t.replies) c.sent.ensures) (rw c.replies-replies.ensures at c.in_ok-put_message.ensures.ok)
