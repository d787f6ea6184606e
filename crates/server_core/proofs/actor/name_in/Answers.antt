use Rattle.std.proofs.Common.{◌∙◌}
use Rattle.server_core.proofs.Places.{name_here, name_past}
use Rattle.server_core.proofs.actor.name_in.Goals as goal

pub returns-then-place-cells-clause-value : goal.returns-then-place-cells-clause-value
returns-then-place-cells-clause-value g c = c.name.ensures.value ∙ name_here c.args.cells.now c.args.cell c.index-cells-place.result
    c.if-place-cells.true c.index-cells-place.is

pub returns-else-place-cells-clause-value : goal.returns-else-place-cells-clause-value
returns-else-place-cells-clause-value g c = name_past c.args.cells.now c.args.cell c.if-place-cells.false
