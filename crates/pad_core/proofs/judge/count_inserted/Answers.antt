use Rattle.std.proofs.Common.{◌≡◌, ◌+◌, min, fold, sum_by, rules, sym, ◌∙◌, arith}
use Rattle.pad_model.specs.Operation.{author_of}
use Rattle.pad_model.proofs.CheckedLemmas.{fold_total}
use Rattle.pad_core.specs.Judge.{part_growth}
use Rattle.pad_core.proofs.Judged.{growth-few, length-inserts_in}
use Rattle.pad_core.proofs.judge.count_inserted.Goals as goal

-- the count is the sum, which is small
counts : (c : goal.After-fold) → c.fold.result ≡ sum_by part_growth c.args.op.now.parts
counts c =
    let folded : c.fold.result ≡ fold (λ total part. min (total + part_growth part) 18446744073709551615) 0
    c.args.op.now.parts = search rules in
    let bounded : c.fold.result ≡ min (sum_by part_growth c.args.op.now.parts) 18446744073709551615 =
    folded ∙ fold_total part_growth 18446744073709551615 c.args.op.now.parts in
    let few = growth-few c.args.op.now c.requires in
    omega arith

pub returns-clause-value : goal.returns-clause-value
returns-clause-value c = counts c ∙ sym (length-inserts_in (author_of c.args.op.now) c.args.op.now.parts)

pub returns-clause-few : goal.returns-clause-few
returns-clause-few c =
    let count = counts c in
    let few = growth-few c.args.op.now c.requires in
    omega arith
