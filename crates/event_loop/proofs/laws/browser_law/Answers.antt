use Rattle.conversation.specs.ThreadSession.{CallsRow, IsApart}
use Rattle.conversation.specs.Laws.{ServesApart}
use Rattle.event_loop.proofs.Browsing.{browsers}
use Rattle.event_loop.proofs.laws.browser_law.Goals as goal

pub returns : goal.returns
returns g c =
    browsers CallsRow IsApart (ServesApart CallsRow IsApart) c.lines_law.ensures c.pieces_law.ensures
    c.shared_law.ensures.course
