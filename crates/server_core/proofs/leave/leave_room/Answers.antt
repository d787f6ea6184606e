use Rattle.server_core.proofs.Places.{left_here, left_past}
use Rattle.server_core.proofs.leave.leave_room.Goals as goal

pub returns-then-place-cells : goal.returns-then-place-cells
returns-then-place-cells g c = left_here c.args.cells.now c.args.who.now c.args.room.now c.index-cells-place.result
    c.depart.new.self c.as_str.result.now c.if-place-cells.true c.as_str.ensures c.depart.ensures

pub returns-else-place-cells : goal.returns-else-place-cells
returns-else-place-cells g c = left_past c.args.cells.now c.args.who.now c.args.room.now c.if-place-cells.false
