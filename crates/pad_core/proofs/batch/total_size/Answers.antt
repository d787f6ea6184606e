use Rattle.std.proofs.Common.{◌≡◌, ◌+◌, min, fold, rules, ◌∙◌}
use Rattle.pad_core.specs.Batch.{size_of_part}
use Rattle.pad_model.proofs.CheckedLemmas.{fold_bounded}
use Rattle.pad_core.proofs.batch.total_size.Goals as goal

pub returns : goal.returns
returns c =
    let folded : c.fold.result ≡ fold (λ total part. min (total + min (size_of_part part) 18446744073709551615)
    18446744073709551615) 0 c.args.parts.now = search rules in
    folded ∙ fold_bounded size_of_part 18446744073709551615 c.args.parts.now
