use Rattle.authorship.proofs.At.{place_found}
use Rattle.authorship.proofs.find.place_of.Goals as goal

pub returns-in-Some-clause-place : goal.returns-in-Some-clause-place
returns-in-Some-clause-place c = place_found c.args.runs.now.items c.args.pos c.in-Some.found.rank c.in-Some.found.offset
    c.in-Some.ensures.some
