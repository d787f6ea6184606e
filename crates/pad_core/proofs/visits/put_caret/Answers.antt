use Rattle.pad_core.proofs.Acted.{caret_is_put}
use Rattle.pad_core.proofs.visits.put_caret.Goals as goal

pub returns : goal.returns
returns g c =
    caret_is_put c.args.rev c.args.at c.args.visit c.args.ledger.now c.args.presence.now c.caret.new.self
    c.len-now.result c.len_at.result c.stamp_before.result c.len-now.ensures.value c.if-now-rev.false c.len_at.ensures
    c.if-len_at-at.false c.stamp_before.ensures c.in_ok-caret.ensures.1
