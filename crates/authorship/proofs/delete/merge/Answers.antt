use Rattle.std.proofs.Common.{◌≡◌, ◌+◌, ◌-◌, arith, ap, ◌∙◌, sym, set, Some, slice_get}
use Rattle.authorship.specs.declared.stored_run.StoredRun.{StoredRun}
use Rattle.authorship.proofs.Puts.{characters-set, one_fits}
use Rattle.authorship.proofs.Takes.{characters-remove, get_before, merged}
use Rattle.authorship.proofs.delete.merge.Goals as goal

pub overflow_add-run : goal.overflow_add-run
overflow_add-run c =
    let fits = one_fits c.remove-right.new.self.items (c.args.seam - 1) c.get-run.result.now c.get-run.ensures.item in
    let less = ap Rattle.authorship.specs.StoredRuns.characters c.remove-right.ensures.items in
    let all = characters-remove c.args.runs.now.items c.args.seam c.remove-right.result
    c.remove-right.ensures.removed in
    omega (arith, fits, less, all, c.requires.fits)

pub replace-requires-clause-weight_fits : goal.replace-requires-clause-weight_fits
replace-requires-clause-weight_fits c =
    let run = c.get-run.result.now in
    let longer : StoredRun = record run { len = run.len + c.remove-right.result.len } in
    let total = characters-set c.remove-right.new.self.items (c.args.seam - 1) run longer c.get-run.ensures.item in
    let less = ap Rattle.authorship.specs.StoredRuns.characters c.remove-right.ensures.items in
    let all = characters-remove c.args.runs.now.items c.args.seam c.remove-right.result
    c.remove-right.ensures.removed in
    omega (arith, total, less, all, c.requires.fits)

pub returns : goal.returns
returns c =
    let run = c.get-run.result.now in
    let longer : StoredRun = record run { len = run.len + c.remove-right.result.len } in
    let first : slice_get c.args.runs.now.items (c.args.seam - 1) ≡ Some c.get-run.result.now =
    sym (get_before c.args.runs.now.items (c.args.seam - 1) c.args.seam (omega arith))
    ∙ ap (λ l. slice_get l (c.args.seam - 1)) (sym c.remove-right.ensures.items) ∙ c.get-run.ensures.item in
    record {
      items = merged c.args.runs.now.items c.replace.new.self.items (c.args.seam - 1) c.args.seam c.get-run.result.now
          c.remove-right.result (omega arith) c.remove-right.ensures.removed first
          (c.replace.ensures.items ∙ ap (λ l. set l (c.args.seam - 1) longer) c.remove-right.ensures.items);
    }
