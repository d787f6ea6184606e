use Rattle.std.proofs.Common.{◌≡◌, ◌≤◌, arith, length}
use Rattle.pad_model.specs.Seen.{count_in}
use Rattle.pad_core.specs.Counts.{vector_of}
use Rattle.pad_core.proofs.Counted.{count_in-le-length}
use Rattle.pad_core.proofs.edit.next_name.Goals as goal

pub overflow_add-result : goal.overflow_add-result
overflow_add-result g c =
    let seen : c.seen.result.now ≡ vector_of c.args.ledger.now = c.seen.ensures in
    let count : c.count.result ≡ count_in (vector_of c.args.ledger.now) c.args.replica = rw (← seen) c.count.ensures in
    let low : count_in (vector_of c.args.ledger.now) c.args.replica ≤ length c.args.ledger.now =
    count_in-le-length c.args.ledger.now c.args.replica in
    let short : length c.args.ledger.now ≤ 200000 = c.len-operations.ensures.sound.short in
    omega arith
