use Rattle.wire_json.proofs.Rising.{next_counted, next_below}
use Rattle.wire_json.proofs.read_forms.seen.Goals as goal

pub loop-pair-preserved : goal.loop-pair-preserved
loop-pair-preserved c = record {
  counted = next_counted _ c.in_ok-pair-items.pair-items.now c.loop-pair.pair-index c.pair-item.result c.loop-pair.seen
      c.set.new.self c.loop-pair.last c.in_ok-pair.pair
      c.loop-pair-test.true c.pair-item.is c.in_ok-pair.ensures.form c.if-pair-last.false c.in_ok-pair.ensures.low
      c.loop-pair.invariant.below c.in_ok-set.ensures.ok c.loop-pair.invariant.counted;
  below = next_below c.loop-pair.seen c.set.new.self c.loop-pair.last c.in_ok-pair.pair c.if-pair-last.false
      c.in_ok-pair.ensures.low c.loop-pair.invariant.below c.in_ok-set.ensures.ok;
}
