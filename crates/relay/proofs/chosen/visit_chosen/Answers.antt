use Rattle.relay.proofs.Places.{breaks_listed, stays_listed, visited_listed}
use Rattle.relay.proofs.chosen.visit_chosen.Goals as goal

pub returns-clause-same_reference : goal.returns-clause-same_reference
returns-clause-same_reference g c =
    stays_listed g.P.Pads.calls g.P.Pads.names c.visit_cells.result c.args.version c.args.known c.args.chosen.now
    c.visit_cells.new.pads (g.L.LineExchange.wire c.args.link.now) (g.L.LineExchange.wire c.visit_cells.new.link)
    c.visit_cells.ensures.all c.visit_cells.ensures.fault

pub returns-clause-all : goal.returns-clause-all
returns-clause-all g c =
    visited_listed g.P.Pads.calls g.P.Pads.names c.visit_cells.result c.args.version c.args.known c.args.chosen.now
    c.visit_cells.new.pads (g.L.LineExchange.wire c.args.link.now) (g.L.LineExchange.wire c.visit_cells.new.link)
    c.visit_cells.ensures.all

pub returns-clause-fault : goal.returns-clause-fault
returns-clause-fault g c =
    breaks_listed g.P.Pads.calls g.P.Pads.names c.visit_cells.result c.args.version c.args.known c.args.chosen.now
    c.visit_cells.new.pads (g.L.LineExchange.wire c.args.link.now) (g.L.LineExchange.wire c.visit_cells.new.link)
    c.visit_cells.ensures.fault
