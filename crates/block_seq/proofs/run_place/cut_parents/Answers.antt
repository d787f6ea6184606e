use Rattle.std.proofs.Common.{refl, arith}
use Rattle.std.specs.Borrow.{Bor}
use Rattle.pad_model.specs.declared.op.Run.{Run}
use Rattle.blocks.proofs.Cells.{same_itself, same_then}
use Rattle.block_seq.specs.RowParts.{IsCutBehind}
use Rattle.block_seq.proofs.RowRuns.{all_more, still_behind}
use Rattle.block_seq.proofs.run_place.cut_parents.Goals as goal

pub loop-run-init : goal.loop-run-init
loop-run-init c = record {
  kept = c.requires.kept;
  cells = same_itself c.args.tree.now.items;
  edges = λ s edge. edge;
  cut = tt;
  more = omega arith;
}

pub returns-in_err-cut_parent-clause-cells : goal.returns-in_err-cut_parent-clause-cells
returns-in_err-cut_parent-clause-cells c =
    same_then c.args.tree.now.items c.loop-run.tree.items c.cut_parent.new.tree.items c.loop-run.invariant.cells
    c.cut_parent.ensures.cells

pub loop-run-preserved : goal.loop-run-preserved
loop-run-preserved c = record {
  kept = c.cut_parent.ensures.kept;
  cells = same_then c.args.tree.now.items c.loop-run.tree.items c.cut_parent.new.tree.items c.loop-run.invariant.cells
      c.cut_parent.ensures.cells;
  edges = λ s edge. c.cut_parent.ensures.edges s (c.loop-run.invariant.edges s edge);
  cut =
      all_more (λ (run : Bor Run). IsCutBehind c.loop-run.index run.now.after)
      (λ run. IsCutBehind c.cut_parent.new.index run.now.after) c.args.runs.now c.loop-run.run-index _ c.run-item.result
      c.loop-run-test.true c.run-item.is refl
      (λ run. still_behind c.loop-run.index c.cut_parent.new.index run.now.after c.cut_parent.ensures.edges)
      c.loop-run.invariant.cut c.in_ok-cut_parent.ensures.cut;
  more = omega (arith, c.loop-run.invariant.more, c.cut_parent.ensures.more);
}
