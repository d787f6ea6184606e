use Rattle.std.proofs.Common.{◌∙◌, sym, arith}
use Rattle.pad_store.proofs.Partings.{compared, ends_before, ends_here}
use Rattle.pad_store.proofs.parting.last_shared.Goals.{then-have_one_sum, else-have_one_sum}
use Rattle.pad_store.proofs.parting.last_shared.Goals as goal

pub loop-place-preserved : goal.loop-place-preserved
loop-place-preserved c =
    let same = compared c.args.olds.now c.args.news.now c.loop-place.place _ _ (omega (arith, c.loop-place-test.true, c.min-place-end.ensures)) (omega (arith, c.loop-place-test.true, c.min-place-end.ensures)) in
    elim c.if-have_one_sum.branch [ then-have_one_sum w ↦ rw w.shared-is (ends_here _ _ (same ∙ (sym c.have_one_sum.ensures ∙ w.if-have_one_sum.true))) | else-have_one_sum w ↦ rw w.shared-is (ends_before _ _ _ c.loop-place.invariant (same ∙ (sym c.have_one_sum.ensures ∙ w.if-have_one_sum.false))) ]
