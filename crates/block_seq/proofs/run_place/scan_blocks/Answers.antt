use Rattle.std.proofs.Common.{sym, ◌∙◌, arith}
use Rattle.block_seq.proofs.BlockScan.{passes_more, passes_none}
use Rattle.block_seq.proofs.run_place.scan_blocks.Goals as goal

pub returns-then-not-is_newer-clause-value : goal.returns-then-not-is_newer-clause-value
returns-then-not-is_newer-clause-value c =
    let none = passes_none c.args.first c.args.tree.now.items c.loop-rank.rank c.get.result.now c.get.ensures.item
    (sym c.is_newer.ensures ∙ c.if-not-is_newer.true) in
    omega (arith, none, c.loop-rank.invariant)

pub loop-rank-preserved : goal.loop-rank-preserved
loop-rank-preserved c =
    let more = passes_more c.args.first c.args.tree.now.items c.loop-rank.rank c.get.result.now c.get.ensures.item
    (sym c.is_newer.ensures ∙ c.if-not-is_newer.false) in
    omega (arith, more, c.loop-rank.invariant)
