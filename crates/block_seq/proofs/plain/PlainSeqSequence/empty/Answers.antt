use Rattle.block_seq.proofs.Kept.{nothing_kept}
use Rattle.block_seq.proofs.plain.PlainSeqSequence.empty.Goals as goal

pub invariant_of-result : goal.invariant_of-result
invariant_of-result c = nothing_kept c.new.ensures.items
