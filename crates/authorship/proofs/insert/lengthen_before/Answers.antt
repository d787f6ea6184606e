use Rattle.std.proofs.Common.{◌+◌, ◌∙◌, arith, ap, subst, sym}
use Rattle.authorship.specs.StoredRuns.{IsProper, places}
use Rattle.authorship.specs.declared.stored_run.StoredRun.{StoredRun}
use Rattle.authorship.proofs.Puts.{characters-set, one_fits, places-read, proper-read}
use Rattle.authorship.proofs.insert.lengthen_before.Goals as goal

pub overflow_add-run : goal.overflow_add-run
overflow_add-run c =
    let fits = one_fits c.args.runs.now.items c.in-Some.found.rank c.get-run.result.now c.get-run.ensures.item in
    omega (arith, fits, c.requires.fits)

pub replace-requires-clause-weight_fits : goal.replace-requires-clause-weight_fits
replace-requires-clause-weight_fits c =
    let run = c.get-run.result.now in
    let longer : StoredRun = record run { len = run.len + c.args.len } in
    let total = characters-set c.args.runs.now.items c.in-Some.found.rank run longer c.get-run.ensures.item in
    omega (arith, total, c.requires.fits)

pub returns-clause-places : goal.returns-clause-places
returns-clause-places c = λ yes. (ap places c.replace.ensures.items
    ∙ places-read c.args.runs.now.items c.args.pos c.in-Some.found.rank c.in-Some.found.offset c.args.len c.args.author
    c.get-run.result.now c.in-Some.ensures.some (omega arith) c.get-run.ensures.item c.if-run-author.false)

pub returns-clause-proper : goal.returns-clause-proper
returns-clause-proper c = subst IsProper (sym c.replace.ensures.items)
    (proper-read c.args.runs.now.items c.in-Some.found.rank c.args.len c.get-run.result.now c.get-run.ensures.item
    c.requires.some c.requires.proper)
