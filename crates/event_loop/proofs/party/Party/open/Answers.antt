use Rattle.std.proofs.Common.{◌≡◌}
use Rattle.event_loop.specs.Party.Goes.{opens}
use Rattle.event_loop.specs.declared.party.Stage.TheVariants.{Talks}
use Rattle.event_loop.specs.declared.protocol.Protocol.TheVariants.{Upgrading}
use Rattle.event_loop.proofs.party.Party.open.Goals as goal

pub returns-in-Talks-Upgrading : goal.returns-in-Talks-Upgrading
returns-in-Talks-Upgrading g c =
    let talks : c.args.self.now.stage ≡ Talks = rw (← c.self.view_is) c.in-Talks-Upgrading.is-0 in
    let request : c.args.self.now.protocol ≡ Upgrading c.in-Talks-Upgrading.field-0-1 =
    rw (← c.self.view_is) c.in-Talks-Upgrading.is-1 in
    opens talks c.in-Talks-Upgrading.field-0-1 request (c.open_socket.ensures c.in-Talks-Upgrading.field-0-1 request)
