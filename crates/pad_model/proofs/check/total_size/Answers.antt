use Rattle.std.proofs.Common.{◌≡◌, ◌+◌, min, fold, rules, ◌∙◌}
use Rattle.pad_model.specs.Checked.{part_size}
use Rattle.pad_model.proofs.CheckedLemmas.{fold_bounded}
use Rattle.pad_model.proofs.check.total_size.Goals as goal

pub returns : goal.returns
returns c =
    let folded : c.fold.result ≡ fold (λ total part. min (total + min (part_size part) 18446744073709551615)
    18446744073709551615) 0 c.args.parts.now = search rules in
    folded ∙ fold_bounded part_size 18446744073709551615 c.args.parts.now
