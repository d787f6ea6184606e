use Rattle.std.proofs.Common.{◌-◌, take, get_or, sym, ap, ◌∙◌, subst, arith}
use Rattle.blocks.specs.Blocks.{without_labels}
use Rattle.block_seq.specs.RowParts.{AreRanks, without_ranks}
use Rattle.block_seq.proofs.RowRuns.{OneTaken, one_taken}
use Rattle.block_seq.proofs.run_put.take_blocks.Goals as goal
use Rattle.block_seq.proofs.run_put.take_blocks.Goals.{In-loop-left}

-- the next rank
next : (c : In-loop-left) → OneTaken c.loop-left.tree.items c.args.ranks.now (c.loop-left.left - 1)
    (get_or c.args.ranks.now (c.loop-left.left - 1) 0)
    (without_ranks (without_labels c.args.tree.now.items) c.args.ranks.now)
next c =
    let within = c.loop-left.invariant.within in
    let some = c.loop-left-test.true in
    one_taken c.loop-left.tree.items c.args.ranks.now c.loop-left.left (c.loop-left.left - 1)
    (without_ranks (without_labels c.args.tree.now.items) c.args.ranks.now)
    (omega (arith, some)) (omega (arith, some, within)) c.loop-left.invariant.ranks c.loop-left.invariant.taken

pub take_block-requires-clause-within : goal.take_block-requires-clause-within
take_block-requires-clause-within c = (next (goal.at.take_block-requires-clause-within c).In-loop-left).within

pub loop-left-preserved : goal.loop-left-preserved
loop-left-preserved c =
    let n = next (goal.at.loop-left-preserved c).In-loop-left in
    let within = c.loop-left.invariant.within in
    record {
      within = omega (arith, within);
      kept = c.take_block.ensures.kept;
      ranks = subst (λ l. AreRanks (without_labels l) (take (c.loop-left.left - 1) c.args.ranks.now))
          (sym c.take_block.ensures.taken) n.ranks';
      taken = ap (λ l. without_ranks (without_labels l) (take (c.loop-left.left - 1) c.args.ranks.now))
          c.take_block.ensures.taken ∙ n.taken;
    }
