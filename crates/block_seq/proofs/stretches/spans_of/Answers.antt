use Rattle.std.proofs.Common.{◌+◌, ◌++◌, drop, ap, ◌∙◌}
use Rattle.pad_model.specs.Visible.{spans}
use Rattle.block_seq.specs.KeptParts.{following}
use Rattle.block_seq.proofs.Fronts.{spans-step, rest_all, within}
use Rattle.block_seq.proofs.stretches.spans_of.Goals as goal

pub loop-place-preserved : goal.loop-place-preserved
loop-place-preserved c = (
  within c.loop-place.place c.count_following-more.result c.args.stamps.now c.loop-place-test.true
      (c.count_following-more.ensures.within),
  ap (λ l. l ++ spans (drop (c.loop-place.place + (c.count_following-more.result + 1)) c.args.stamps.now))
      c.in_ok-push.ensures.items
      ∙ spans-step c.args.stamps.now c.loop-place.place c.index-stamps-place.result c.count_following-more.result
      c.loop-place.spans.items c.loop-place-test.true c.index-stamps-place.is (c.count_following-more.ensures.value
      ∙ ap (following c.index-stamps-place.result) (rest_all c.args.stamps.now (c.loop-place.place + 1)))
      ∙ c.loop-place.invariant.1,
)
