use Rattle.std.proofs.Common.{rules, ◌≡◌}
use Rattle.event_loop.specs.Party.Goes.{refuses}
use Rattle.event_loop.specs.declared.party.Stage.TheVariants.{Talks}
use Rattle.event_loop.proofs.party.Party.refuse.Goals as goal

pub returns : goal.returns
returns g c =
    let talks : c.self.inside.stage ≡ Talks = search rules in
    let still : c.args.self.now.stage ≡ Talks = rw (← c.self.view_is) talks in
    refuses still (c.is_request.ensures c.if-not-is_request.false) _ c.close_with.ensures
