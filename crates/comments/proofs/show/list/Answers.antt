use Rattle.std.proofs.Common.{arith}
use Rattle.comments.proofs.Sorted.{held_at}
use Rattle.comments.proofs.show.list.Goals as goal

pub show-requires : goal.show-requires
show-requires g c = held_at _ c.args.rev c.args.comments.now c.loop-comment.comment-index c.comment-item.result
    c.requires (omega arith) c.comment-item.is c.if-comment-rev.true
