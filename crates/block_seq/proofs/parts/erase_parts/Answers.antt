use Rattle.std.proofs.Common.{sym, ap₂, ◌∙◌, ◌+◌}
use Rattle.block_seq.proofs.PartSteps.{erased_none, counted_none, marked_more, counted_more}
use Rattle.block_seq.proofs.parts.erase_parts.Goals as goal

pub loop-part-init : goal.loop-part-init
loop-part-init c = (sym (erased_none c.args.rev c.args.cells.now), counted_none c.args.cells.now)

pub loop-part-preserved : goal.loop-part-preserved
loop-part-preserved c = (
  c.erase_part-hidden.ensures.cells ∙ marked_more c.args.rev c.args.parts.now c.loop-part.part-index c.part-item.result
      c.args.cells.now c.loop-part.cells c.loop-part-test.true c.part-item.is c.loop-part.invariant.0,
  ap₂ (λ m n. m + n) c.loop-part.invariant.1 c.erase_part-hidden.ensures.value
      ∙ counted_more c.args.rev c.args.parts.now c.loop-part.part-index c.part-item.result c.args.cells.now
      c.loop-part.cells c.loop-part-test.true c.part-item.is c.loop-part.invariant.0,
)
