use Rattle.std.proofs.Common.{◌≡◌, ◌+◌, ◌-◌, ◌++◌, take, drop, length, suc, slice_get, slice_set, Some, sym, ap, ◌∙◌}
use Rattle.std.proofs.Common.{arith}
use Rattle.blocks.specs.Blocks.{spread}
use Rattle.blocks.specs.declared.block.Block.{Block}
use Rattle.blocks.proofs.Entries.{some_at}
use Rattle.blocks.proofs.Labels.{length-front, front_more, steps_under}
use Rattle.blocks.proofs.label.respace.Goals as goal

pub overflow_add-label : goal.overflow_add-label
overflow_add-label c =
    let w = c.args.window in
    let under = steps_under w.step (c.loop-rank.rank - w.from) (w.to - w.from)
    (omega (arith, c.loop-rank.invariant.begun, c.loop-rank-test.true)) in
    omega (arith, under, c.loop-rank.invariant.label, c.requires.room)

pub relabel-requires-clause-within : goal.relabel-requires-clause-within
relabel-requires-clause-within c =
    let w = c.args.window in
    let same = ap length c.loop-rank.invariant.items ∙ length-front w.step w.low w.from (c.loop-rank.rank - w.from)
    c.args.tree.now.items in
    omega (arith, same, c.requires.within, c.loop-rank-test.true)

pub loop-rank-preserved : goal.loop-rank-preserved
loop-rank-preserved c =
    let w = c.args.window in
    let i = c.loop-rank.rank in
    let bs = c.args.tree.now.items in
    let n = i - w.from in
    let same = ap length c.loop-rank.invariant.items ∙ length-front w.step w.low w.from n bs in
    let found = some_at c.loop-rank.tree.items i (omega (arith, same, c.requires.within, c.loop-rank-test.true)) in
    let here : slice_get (take w.from bs ++ spread w.step w.low n (drop w.from bs)) i ≡ Some found.0 =
    ap (λ l. slice_get l i) (sym c.loop-rank.invariant.items) ∙ found.1 in
    let next : suc n ≡ i + 1 - w.from = omega (arith, c.loop-rank.invariant.begun) in
    record {
      listed = c.relabel.ensures.listed;
      held = λ first s h. c.loop-rank.invariant.held first s (c.relabel.ensures.held first s h);
      begun = omega (arith, c.loop-rank.invariant.begun);
      items = c.relabel.ensures.set found.0 found.1
          ∙ ap (λ l. slice_set l i (let it : Block = record found.0 { label = c.loop-rank.label + w.step } in it))
          c.loop-rank.invariant.items
          ∙ front_more w.step w.low (c.loop-rank.label + w.step) w.from n i bs found.0 here
          (omega (arith, c.loop-rank.invariant.begun)) (omega (arith, c.requires.ordered, c.requires.within))
          (omega (arith, c.loop-rank.invariant.label))
          ∙ ap (λ k. take w.from bs ++ spread w.step w.low k (drop w.from bs)) next;
      label = rw (sym next) (omega (arith, c.loop-rank.invariant.label));
    }
