use Rattle.std.proofs.Common.{◌+◌, arith, ap, ◌∙◌, sym, set}
use Rattle.authorship.specs.declared.stored_run.StoredRun.{StoredRun}
use Rattle.authorship.proofs.At.{read}
use Rattle.authorship.proofs.Puts.{characters-set, one_fits}
use Rattle.authorship.proofs.insert.lengthen.Goals as goal

pub overflow_add-run : goal.overflow_add-run
overflow_add-run c =
    let fits = one_fits c.args.runs.now.items c.args.index c.get-run.result.now c.get-run.ensures.item in
    omega (arith, fits, c.requires.fits)

pub replace-requires-clause-weight_fits : goal.replace-requires-clause-weight_fits
replace-requires-clause-weight_fits c =
    let run = c.get-run.result.now in
    let longer : StoredRun = record run { len = run.len + c.args.len } in
    let total = characters-set c.args.runs.now.items c.args.index run longer c.get-run.ensures.item in
    omega (arith, total, c.requires.fits)

pub returns : goal.returns
returns c =
    let there = read c.args.runs.now.items c.args.index c.get-run.result.now c.get-run.ensures.item in
    record { items = c.replace.ensures.items ∙ ap (λ (r : StoredRun). set c.args.runs.now.items c.args.index (record r { len = r.len + c.args.len })) (sym there.1) }
