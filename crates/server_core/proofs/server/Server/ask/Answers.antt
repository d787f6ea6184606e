use Rattle.std.proofs.Common.{refl, arith}
use Rattle.server_core.specs.Machine.{Server}
use Rattle.server_core.specs.declared.step.Step.TheVariants.{Ask}
use Rattle.server_core.proofs.Served.{served}
use Rattle.server_core.proofs.server.Server.ask.Goals as goal

pub returns : goal.returns
returns g c =
    let s : Server = record { replica = c.self.inside.replica; accounts = c.self.inside.accounts; cells = c.self.inside.cells.items; actors = c.self.inside.actors.items } in
    let a = c.index_mut.result.now in
    let row = c.self.inside.cells.items in
    served c.args.self.now s c.args.actor (Ask c.args.request.now) a a row c.ask.result c.ask.new.self row
    c.self.view_is (omega arith) c.index_mut.ensures.value refl (c.ask.ensures row)
