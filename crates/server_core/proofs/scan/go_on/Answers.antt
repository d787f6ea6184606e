use Rattle.std.proofs.Common.{sym, ◌∙◌}
use Rattle.server_core.proofs.Visits.{scan_acted}
use Rattle.server_core.proofs.scan.go_on.Goals as goal

pub returns-else-goes_on-clause-acted : goal.returns-else-goes_on-clause-acted
returns-else-goes_on-clause-acted g c =
    scan_acted c.args.session.now.who c.answer_at-answer.new.session.who c.args.session.now.rooms
    c.answer_at-answer.new.session.rooms c.args.task.now c.turn-in-Scanning.new.self c.in-Scanning.request c.in-Scanning.cell
    c.args.cells.now c.answer_at-answer.new.cells
    c.answer_at-answer.result c.conclude-moved.result c.in-Scanning.is c.answer_at-answer.ensures.who c.turn-in-Scanning.ensures
    (sym c.goes_on.ensures ∙ c.if-goes_on.false) c.conclude-moved.ensures c.answer_at-answer.ensures.visited
