use Rattle.std.proofs.Common.{arith}
use Rattle.authorship.proofs.Puts.{put-seam, places-touched, places-put, proper-set, proper-put, few_runs, fewer_runs}
use Rattle.authorship.proofs.insert.put_beside.Goals as goal

pub put_run-requires-clause-few : goal.put_run-requires-clause-few
put_run-requires-clause-few c =
    let few = few_runs c.args.runs.now.items c.requires.proper in
    omega (arith, few, c.requires.fits)

pub put_inside-requires-clause-few : goal.put_inside-requires-clause-few
put_inside-requires-clause-few c =
    let few = fewer_runs c.args.runs.now.items c.place_of-place.result.index c.place_of-place.result.offset
    c.requires.proper c.place_of-place.ensures.place.inside (omega arith) in
    omega (arith, few, c.requires.fits)

pub returns-in-Some-clause-places : goal.returns-in-Some-clause-places
returns-in-Some-clause-places c =
    rw (c.lengthen.ensures.items, ← c.place_of-place.ensures.position)
    (places-touched _ _ _ _ _ c.in-Some.ensures.found)

pub returns-in-Some-clause-proper : goal.returns-in-Some-clause-proper
returns-in-Some-clause-proper c = rw c.lengthen.ensures.items (proper-set _ _ _ (omega arith) c.requires.proper)

pub returns-then-place-eq0-clause-places : goal.returns-then-place-eq0-clause-places
returns-then-place-eq0-clause-places c =
    let put = put-seam _ _ _ _ c.put_run.ensures.items c.if-place-eq0.true in
    rw (put, ← c.place_of-place.ensures.position) (places-put _ _ _ c.place_of-place.ensures.place)

pub returns-then-place-eq0-clause-proper : goal.returns-then-place-eq0-clause-proper
returns-then-place-eq0-clause-proper c =
    let put = put-seam _ _ _ _ c.put_run.ensures.items c.if-place-eq0.true in
    rw put (proper-put _ _ _ c.place_of-place.ensures.place c.in_default.ensures.none c.requires.proper (omega arith))

pub returns-else-place-eq0-clause-places : goal.returns-else-place-eq0-clause-places
returns-else-place-eq0-clause-places c =
    rw (c.put_inside.ensures.items, ← c.place_of-place.ensures.position)
    (places-put _ _ _ c.place_of-place.ensures.place)

pub returns-else-place-eq0-clause-proper : goal.returns-else-place-eq0-clause-proper
returns-else-place-eq0-clause-proper c =
    rw c.put_inside.ensures.items
    (proper-put _ _ _ c.place_of-place.ensures.place c.in_default.ensures.none c.requires.proper (omega arith))
