-- Each thread of a pool does its part.
use Rattle.std.proofs.Common.{subst}
use Rattle.std.specs.Prelude.{slice_index_or}
use Rattle.thread_tests.specs.Pool.{Works}
use Rattle.thread_tests.proofs.pool.pool.Goals as goal

pub returns : goal.returns
returns g c place d low =
    let change = (c.for_each_mut.ensures place d low).1 in
    subst (λ seats. Works c.args.row.now (slice_index_or c.args.crew.now place d).items seats.items) change.left
    (subst (λ seats. Works c.args.row.now seats.items change.after_call.now.items) change.argument_is change.call)
