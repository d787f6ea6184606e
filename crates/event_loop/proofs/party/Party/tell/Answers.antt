use Rattle.std.proofs.Common.{◌≡◌, ap}
use Rattle.event_loop.specs.Party.{Board}
use Rattle.event_loop.proofs.Steps.{told_by}
use Rattle.event_loop.proofs.party.Party.tell.Goals as goal

pub returns : goal.returns
returns g c =
    rw (← c.self.view_is)
    (told_by c.args.tale.now c.send-told.result _ _ _ _ c.stop.new.self c.send-told.ensures.keeps
    c.send-told.ensures.takes
    (ap (λ (b : Board). b.unread) c.stop.ensures, ap (λ (b : Board). b.written) c.stop.ensures)
    (ap (λ (b : Board). b.stage) c.stop.ensures))
