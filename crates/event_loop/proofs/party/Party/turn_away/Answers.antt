use Rattle.event_loop.proofs.Users.{turned}
use Rattle.event_loop.proofs.party.Party.turn_away.Goals as goal

pub returns : goal.returns
returns g c = turned _ _ _ c.refuse_user-told.result c.close_told.result _ c.keep_stranger.ensures c.close_told.ensures.same
    c.refuse_user-told.ensures.closes c.close_told.ensures.ok c.close_told.ensures.err
