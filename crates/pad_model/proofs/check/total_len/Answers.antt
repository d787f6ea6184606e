use Rattle.std.proofs.Common.{◌≡◌, ◌+◌, min, fold, rules, ◌∙◌}
use Rattle.pad_model.specs.declared.op.Span.{Span}
use Rattle.pad_model.proofs.CheckedLemmas.{fold_total}
use Rattle.pad_model.proofs.check.total_len.Goals as goal

pub returns : goal.returns
returns c =
    let folded : c.fold.result ≡ fold (λ total (span : Span). min (total + span.len) 18446744073709551615) 0
    c.args.spans.now = search rules in
    folded ∙ fold_total (λ span. span.len) 18446744073709551615 c.args.spans.now
