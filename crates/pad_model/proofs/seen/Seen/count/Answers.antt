use Rattle.std.proofs.Common.{sym, ap, ◌∙◌}
use Rattle.pad_model.specs.Seen.{IsAt, IsGapFor, count_in}
use Rattle.pad_model.proofs.SeenLemmas.{count_at, gap_count}
use Rattle.pad_model.proofs.seen.Seen.count.Goals as goal

-- the pair that was read is the origin's
pub returns-in-Ok : goal.returns-in-Ok
returns-in-Ok c =
    let at : IsAt c.self.inside.pairs.items c.args.origin c.in-Ok.place =
    rw c.deref.ensures.value at c.in-Ok.ensures.found in
    ap (λ pair. pair.count) c.index.ensures
    ∙ sym (count_at _ c.self.invariant c.args.origin c.in-Ok.place at c.index.result.now)
    ∙ ap (λ v. count_in v c.args.origin) c.self.view_is

-- no pair has the origin
pub returns-in-Err : goal.returns-in-Err
returns-in-Err c =
    let gap : IsGapFor c.self.inside.pairs.items c.args.origin c.in-Err.field-0 =
    rw c.deref.ensures.value at c.in-Err.ensures.absent in
    sym (gap_count _ c.args.origin c.in-Err.field-0 gap) ∙ ap (λ v. count_in v c.args.origin) c.self.view_is
