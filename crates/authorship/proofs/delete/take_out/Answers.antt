use Rattle.std.proofs.Common.{arith}
use Rattle.authorship.proofs.Puts.{proper-set}
use Rattle.authorship.proofs.Takes.{in_order, places-cut, places-rest, fewer, proper-left, proper-right}
use Rattle.authorship.proofs.delete.take_out.Goals as goal

pub take_between-seam-requires-clause-order : goal.take_between-seam-requires-clause-order
take_between-seam-requires-clause-order c =
    let from = c.place_of-first.ensures.position in
    let to = c.place_of-last.ensures.position in
    let le = in_order _ _ _ c.place_of-first.ensures.place c.place_of-last.ensures.place (omega arith) in
    omega arith

pub join-requires-clause-before : goal.join-requires-clause-before
join-requires-clause-before c = rw (c.take_between-seam.ensures.seam, c.take_between-seam.ensures.items)
    (proper-left _ _ _ c.requires.proper)

pub join-requires-clause-behind : goal.join-requires-clause-behind
join-requires-clause-behind c =
    rw (c.take_between-seam.ensures.seam, c.take_between-seam.ensures.items)
    (proper-right _ _ _ c.place_of-last.ensures.place c.requires.proper)

pub join-requires-clause-fits : goal.join-requires-clause-fits
join-requires-clause-fits c =
    let from = c.place_of-first.ensures.position in
    let to = c.place_of-last.ensures.position in
    let le = fewer _ _ _ c.place_of-first.ensures.place c.place_of-last.ensures.place (omega arith) in
    rw c.take_between-seam.ensures.items (omega (arith, c.requires.fits))

pub returns-then-first-last-clause-places : goal.returns-then-first-last-clause-places
returns-then-first-last-clause-places c =
    rw c.cut_out.ensures.items
    (places-cut _ _ _ _ _ c.place_of-first.ensures.place c.place_of-last.ensures.place c.if-first-last.true
    c.place_of-first.ensures.position c.place_of-last.ensures.position (omega arith)).0

pub returns-then-first-last-clause-proper : goal.returns-then-first-last-clause-proper
returns-then-first-last-clause-proper c =
    let some = (places-cut _ _ _ _ _ c.place_of-first.ensures.place c.place_of-last.ensures.place c.if-first-last.true
    c.place_of-first.ensures.position c.place_of-last.ensures.position (omega arith)).1 in
    rw c.cut_out.ensures.items (proper-set _ _ _ some c.requires.proper)

pub returns-else-first-last-clause-places : goal.returns-else-first-last-clause-places
returns-else-first-last-clause-places c =
    rw (c.join.ensures.places, c.take_between-seam.ensures.items)
    (places-rest _ _ _ _ _ c.place_of-first.ensures.place c.place_of-last.ensures.place c.place_of-first.ensures.position
    c.place_of-last.ensures.position)
