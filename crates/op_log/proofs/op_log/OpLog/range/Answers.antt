use Rattle.std.proofs.Common.{◌∷◌, [], ◌++◌, List, sym, ap, ◌∙◌, arith}
use Rattle.pad_model.specs.declared.op.Op.{Op}
use Rattle.op_log.proofs.Ranges.{stretch_more}
use Rattle.op_log.proofs.op_log.OpLog.range.Goals as goal

pub loop-place-preserved : goal.loop-place-preserved
loop-place-preserved c = record {
  copies = c.in_ok-push.ensures.ok ∙ ap (λ (os : List Op). os ++ c.in-Some.op ∷ []) c.loop-place.invariant.copies
      ∙ sym (stretch_more c.args.self.now.operations c.args.start c.loop-place.place c.in-Some.op
      c.loop-place.auto.place (sym c.in_ok-op.ensures.ok ∙ c.in-Some.is));
  upto = omega (arith, c.loop-place-test.true);
}
