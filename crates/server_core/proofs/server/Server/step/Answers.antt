use Rattle.std.proofs.Common.{◌≡◌, length, sym, ap, ◌∙◌, subst, arith}
use Rattle.std.proofs.lemmas.List.{with_items_is}
use Rattle.pad_core.specs.Machine.{Machine}
use Rattle.server_core.specs.Machine.{Server}
use Rattle.server_core.specs.Served.{Acted}
use Rattle.server_core.specs.Steps.{actor_step}
use Rattle.server_core.proofs.Lengths.{acted-cells}
use Rattle.server_core.proofs.Served.{served}
use Rattle.server_core.proofs.server.Server.step.Goals as goal

pub returns-clause-served : goal.returns-clause-served
returns-clause-served g c =
    let s : Server = record { replica = c.self.inside.replica; accounts = c.self.inside.accounts; cells = c.self.inside.cells.items; actors = c.self.inside.actors.items } in
    let row = c.as_mut_slice-cells.result.now in
    let a = c.index_mut.result.now in
    let many : length c.step.new.cells ≡ length row =
    acted-cells c.self.inside.replica c.self.inside.accounts c.args.step.now a row c.step.result c.step.new.self
    c.step.new.cells c.step.ensures.acted
    in
    served _ s _ _ a a row _ _ _ c.self.view_is (omega arith) c.index_mut.ensures.value
    c.as_mut_slice-cells.ensures.value
    (subst (λ cells. Acted c.args.step.now row a
    (actor_step c.self.inside.replica c.self.inside.accounts c.args.step.now a row) c.step.result c.step.new.self cells)
    (sym (with_items_is c.self.inside.cells c.step.new.cells (many ∙ c.as_mut_slice-cells.ensures.len))) c.step.ensures.acted)
