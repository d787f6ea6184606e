use Rattle.std.proofs.Common.{◌-◌, drop, arith, ap, ◌∙◌}
use Rattle.std.specs.List.{remove}
use Rattle.authorship.proofs.Takes.{remove_last}
use Rattle.authorship.proofs.delete.remove_runs.Goals as goal

pub loop-left-preserved : goal.loop-left-preserved
loop-left-preserved c =
    let inv = c.loop-left.invariant in
    let more = c.loop-left-test.true in record {
      low = omega arith;
      high = omega (arith, inv.high);
      items = c.remove.ensures.items ∙ ap (λ l. remove l (c.loop-left.left - 1)) inv.items
          ∙ remove_last c.args.runs.now.items (drop c.args.to c.args.runs.now.items) c.loop-left.left
          (c.loop-left.left - 1) (omega arith) (omega (arith, inv.high, c.requires.within));
    }
