use Rattle.std.proofs.Common.{arith, ap, ◌∙◌, set}
use Rattle.authorship.specs.StoredRuns.{characters}
use Rattle.authorship.proofs.Puts.{characters-insert, set-insert}
use Rattle.authorship.proofs.insert.put_run.Goals as goal

pub replace-requires-clause-weight_fits : goal.replace-requires-clause-weight_fits
replace-requires-clause-weight_fits c =
    let same = ap (λ l. set l c.args.index c.args.run) c.insert.ensures.items
    ∙ set-insert c.args.runs.now.items c.args.index c.in-Some.node c.args.run c.requires.within in
    let total = ap characters same ∙ characters-insert c.args.runs.now.items c.args.index c.args.run in
    omega (arith, total, c.requires.fits)

pub returns-in-Some-clause-items : goal.returns-in-Some-clause-items
returns-in-Some-clause-items c =
    c.replace.ensures.items ∙ ap (λ l. set l c.args.index c.args.run) c.insert.ensures.items
    ∙ set-insert c.args.runs.now.items c.args.index c.in-Some.node c.args.run c.requires.within
