use Rattle.std.proofs.Common.{refl, arith}
use Rattle.op_log.specs.Page.{items_of}
use Rattle.op_log.proofs.page.OpPage.new.Goals as goal

pub invariant_of-result : goal.invariant_of-result
unfolding items_of
invariant_of-result c = record {
  few = omega arith;
  hold = record { within = omega arith; items = refl; short = tt };
  ready = λ e. absurd (cc);
}

pub returns : goal.returns
unfolding items_of
returns c = refl
