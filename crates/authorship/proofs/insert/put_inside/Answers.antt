use Rattle.std.proofs.Common.{◌≡◌, ◌+◌, ◌-◌, List, arith, ap, ◌∙◌, set}
use Rattle.std.specs.List.{insert}
use Rattle.authorship.specs.StoredRuns.{characters}
use Rattle.authorship.specs.declared.stored_run.StoredRun.{StoredRun}
use Rattle.authorship.proofs.At.{read_inside}
use Rattle.authorship.proofs.Puts.{characters-insert, characters-set, put_between}
use Rattle.authorship.proofs.insert.put_inside.Goals as goal
use Rattle.authorship.proofs.insert.put_inside.Goals.{After-get-whole}

pub overflow_sub-right : goal.overflow_sub-right
overflow_sub-right c =
    let inside = read_inside c.args.runs.now.items c.args.place.index c.args.place.offset c.get-whole.result.now
    c.requires.place.inside c.get-whole.ensures.item in
    omega (arith, inside)

-- the parts of the run that is cut
abbrev left : (c : After-get-whole) → StoredRun
left c = record (c.get-whole.result.now) { len = c.args.place.offset }

abbrev right : (c : After-get-whole) → StoredRun
right c = record (c.get-whole.result.now) { len = c.get-whole.result.now.len - c.args.place.offset }

-- have its characters
whole : (c : After-get-whole) → (characters (set c.args.runs.now.items c.args.place.index (left c)) + (right c).len
    ≡ characters c.args.runs.now.items)
whole c =
    let run = c.get-whole.result.now in
    let inside = read_inside c.args.runs.now.items c.args.place.index c.args.place.offset run c.requires.place.inside
    c.get-whole.ensures.item in
    let total = characters-set c.args.runs.now.items c.args.place.index run (left c) c.get-whole.ensures.item in
    omega (arith, inside, total)

pub replace-requires-clause-weight_fits : goal.replace-requires-clause-weight_fits
replace-requires-clause-weight_fits c =
    let total = whole (goal.at.replace-requires-clause-weight_fits c).After-get-whole in
    omega (arith, total, c.requires.fits)

pub put_run-requires-clause-fits : goal.put_run-requires-clause-fits
put_run-requires-clause-fits c =
    let total = whole (goal.at.put_run-requires-clause-fits c).After-get-whole in
    let same = ap characters c.replace.ensures.items in
    omega (arith, total, same, c.requires.fits)

pub put_run-requires-2-clause-fits : goal.put_run-requires-2-clause-fits
put_run-requires-2-clause-fits c =
    let g = (goal.at.put_run-requires-2-clause-fits c).After-get-whole in
    let total = whole g in
    let same = ap characters c.replace.ensures.items in
    let more = ap characters c.put_run.ensures.items
    ∙ characters-insert c.replace.new.self.items (c.args.place.index + 1) (right g) in
    omega (arith, total, same, more, c.requires.fits)

pub returns-clause-items : goal.returns-clause-items
returns-clause-items c =
    let g = (goal.at.returns-clause-items c).After-get-whole in
    let j = c.args.place.index + 1 in
    c.put_run-2.ensures.items
    ∙ ap (λ (l : List StoredRun). insert l j c.args.run)
    (c.put_run.ensures.items ∙ ap (λ (l : List StoredRun). insert l j (right g)) c.replace.ensures.items)
    ∙ put_between c.args.runs.now.items c.args.place.index j c.args.place.offset c.get-whole.result.now c.args.run
    c.get-whole.ensures.item (omega arith) c.requires.cut
