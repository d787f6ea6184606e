-- The loop of `list`: the rows made so far are those of the comments passed so far.
use Rattle.std.proofs.Common.{◌≡◌, take}
use Rattle.comments.specs.Comments.{comments_at}
use Rattle.comments.proofs.show.list.Given as goal

-- the comments that were passed
abbrev pub invariant-loop-comment : goal.invariant-loop-comment
invariant-loop-comment g l = l.rows.items ≡ comments_at l.rev (g.S.Sequence.cells l.sequence)
    (take l.comment-index l.comments)
