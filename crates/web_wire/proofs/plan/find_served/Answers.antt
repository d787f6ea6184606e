use Rattle.web_wire.proofs.PageRequests.{found_behind}
use Rattle.web_wire.proofs.plan.find_served.Goals as goal

pub returns-else-eq-clause-some : goal.returns-else-eq-clause-some
returns-else-eq-clause-some c = found_behind c.args.kept.now c.args.pages.now c.args.path.now c.find_page.result c.find_page.ensures.some
