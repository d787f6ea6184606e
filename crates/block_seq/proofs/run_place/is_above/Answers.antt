use Rattle.std.proofs.Common.{arith}
use Rattle.block_seq.proofs.BlockCells.{above_test}
use Rattle.block_seq.proofs.run_place.is_above.Goals as goal

pub returns : goal.returns
returns c = λ authors text w.
    rw c.counter-counter.ensures.value
    (above_test authors text c.args.index.now c.args.tree.now.items c.args.first c.last_of.result c.requires.listed w
    (let l = c.counter-counter.ensures.limits in omega arith)
    (rw c.replica.ensures.value at c.last_of.ensures.bound) (rw c.replica.ensures.value at c.last_of.ensures.there))
