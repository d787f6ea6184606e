use Rattle.std.proofs.Common.{◌≡◌, ◌+◌, min, fold, rules, ◌∙◌}
use Rattle.pad_core.specs.Edits.{size_of}
use Rattle.pad_core.specs.declared.act.Change.{Change}
use Rattle.pad_model.proofs.CheckedLemmas.{fold_total}
use Rattle.pad_core.proofs.edit.total_size.Goals as goal

pub returns : goal.returns
returns c =
    let folded : c.fold.result ≡ fold (λ total (change : Change). min (total + size_of change) 18446744073709551615) 0
    c.args.changes.now = search rules in
    folded ∙ fold_total size_of 18446744073709551615 c.args.changes.now
