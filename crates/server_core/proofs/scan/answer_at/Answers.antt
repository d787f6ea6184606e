use Rattle.std.proofs.Common.{arith}
use Rattle.server_core.proofs.Rows.{row_visited}
use Rattle.server_core.proofs.scan.answer_at.Goals as goal

pub returns-clause-visited : goal.returns-clause-visited
returns-clause-visited g c = row_visited c.args.session.now.who c.args.request.now c.args.place c.args.session.now.rooms
    c.args.cells.now c.index-cells-index.result c.request_at.result c.request_at.new.session.rooms c.request_at.new.cell
    (omega arith) c.request_at.ensures.visited
