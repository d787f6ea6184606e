use Rattle.std.proofs.Common.{rules, not, filter, ap, ◌∙◌}
use Rattle.std.proofs.lemmas.Fn.{filter_same}
use Rattle.sessions.specs.Session.{Session, is_of}
use Rattle.sessions.specs.declared.session.Room.{Room}
use Rattle.sessions.proofs.session.Session.leave.Goals as goal

pub returns-clause-rooms : goal.returns-clause-rooms
returns-clause-rooms c =
    let kept = filter_same _ (λ (room : Room). not (is_of c.args.pad.now room)) _ (λ room kept f called. search rules) _
    _ c.retain.ensures.filtered in
    kept ∙ ap (λ (s : Session). filter (λ (room : Room). not (is_of c.args.pad.now room)) s.rooms) c.self.view_is
