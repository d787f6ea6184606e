use Rattle.std.proofs.Common.{rules}
use Rattle.conversation.proofs.Talks.{last_is_next}
use Rattle.conversation.proofs.connection.answer_next.Goals as goal

pub returns-then-branch-clause-answered : goal.returns-then-branch-clause-answered
returns-then-branch-clause-answered g c =
    let waits = c.answer.ensures.waits (search rules) in
    λ answered. last_is_next g.P.Pads.calls c.args.ended _ _ _ _ _ _ c.if-ended.true waits.0 waits.1
    (c.answer_last.ensures.last (search rules))
