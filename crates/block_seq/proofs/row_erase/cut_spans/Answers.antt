use Rattle.std.proofs.Common.{refl, arith}
use Rattle.blocks.proofs.Cells.{same_itself, same_then}
use Rattle.block_seq.proofs.RowErase.{cut_out_more}
use Rattle.block_seq.proofs.row_erase.cut_spans.Goals as goal

pub loop-span-init : goal.loop-span-init
loop-span-init c = record {
  kept = c.requires.kept;
  cells = same_itself c.args.tree.now.items;
  cut = tt;
  more = omega arith;
}

pub returns-in_err-cut_span-clause-cells : goal.returns-in_err-cut_span-clause-cells
returns-in_err-cut_span-clause-cells c =
    same_then c.args.tree.now.items c.loop-span.tree.items c.cut_span.new.tree.items c.loop-span.invariant.cells
    c.cut_span.ensures.cells

pub loop-span-preserved : goal.loop-span-preserved
loop-span-preserved c = record {
  kept = c.cut_span.ensures.kept;
  cells = same_then c.args.tree.now.items c.loop-span.tree.items c.cut_span.new.tree.items c.loop-span.invariant.cells
      c.cut_span.ensures.cells;
  cut = cut_out_more c.loop-span.index c.cut_span.new.index c.args.spans.now c.loop-span.span-index _ c.span-item.result
      c.loop-span-test.true c.span-item.is refl c.cut_span.ensures.edges c.loop-span.invariant.cut
      c.in_ok-cut_span.ensures.cut;
  more = omega (arith, c.loop-span.invariant.more, c.cut_span.ensures.more);
}
