-- The loop of `find_page`: no page so far has the path.
use Rattle.std.proofs.Common.{◌≡◌, drop}
use Rattle.web_wire.specs.PageRequests.{has_page}
use Rattle.web_wire.proofs.plan.find_page.Given as goal

abbrev pub invariant-loop-page : goal.invariant-loop-page
invariant-loop-page l = has_page l.pages l.path ≡ has_page (drop l.page-index l.pages) l.path
