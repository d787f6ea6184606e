-- The copies are all where the next missing operation has no room or cannot be read, and else it is one more of them.
use Rattle.std.proofs.Common.{◌≡◌, ◌≤◌, ◌<◌, ◌-◌, ◌+◌, suc, List, length, drop, take, filter, sym, ap, ◌∙◌, arith}
use Rattle.pad_model.specs.declared.op.Op.{Op}
use Rattle.op_log.specs.Log.{is_missing}
use Rattle.pad_core.specs.Batch.{batch_of}
use Rattle.pad_core.specs.Exchange.{readable}
use Rattle.pad_core.proofs.Batched.{ended, full, rest_of, taken, unread}
use Rattle.pad_core.proofs.batch.copy_batch.Goals.{else-len-gt0-via-then-len-gt0+else-room-size, else-len-gt0-via-else-len-gt0}
use Rattle.pad_core.proofs.batch.copy_batch.Goals as goal

pub returns-then-room-size : goal.returns-then-room-size
returns-then-room-size g c =
    let l = c.loop-n in
    let left = c.args.most - l._n in
    let found = c.in-Some.found in
    let there = rw c.in-Some.is at c.in_ok-found.ensures in
    ended l.copies _ _ l.invariant.copies
    (ap (λ (ops : List Op). rest_of c.args.version l.copies l.room left ops) there
    ∙ full c.args.version l.copies l.room left c.size_of-size.result found.op
    (filter (is_missing c.args.seen.now) (drop found.behind c.args.ledger.now))
    (omega (arith, c.if-len-gt0.true, c.len.ensures)) c.size_of-size.ensures c.if-room-size.true)

pub returns-then-not-can_read : goal.returns-then-not-can_read
returns-then-not-can_read g c =
    let l = c.loop-n in
    let left = c.args.most - l._n in
    let found = c.in-Some.found in
    let there = rw c.in-Some.is at c.in_ok-found.ensures in
    ended l.copies _ _ l.invariant.copies
    (ap (λ (ops : List Op). rest_of c.args.version l.copies l.room left ops) there
    ∙ unread c.args.version l.copies l.room left found.op
    (filter (is_missing c.args.seen.now) (drop found.behind c.args.ledger.now))
    (sym c.can_read.ensures ∙ c.if-not-can_read.true))

pub loop-n-preserved : goal.loop-n-preserved
loop-n-preserved g c =
    let l = c.loop-n in
    let found = c.in-Some.found in
    let m = is_missing c.args.seen.now in
    let there = rw c.in-Some.is at c.in_ok-found.ensures in
    let fits : 0 < length l.copies → c.size_of-size.result ≤ l.room =
    elim c.else-len-gt0.branch [
      | else-len-gt0-via-then-len-gt0+else-room-size w ↦ λ some. omega (arith, w.if-room-size.false)
      | else-len-gt0-via-else-len-gt0 w ↦ λ some. absurd (omega (arith, some, w.if-len-gt0.false, c.len.ensures))
    ] in
    let some : c.args.most - l._n ≡ suc (c.args.most - (l._n + 1)) = omega (arith, c.loop-n-test.true) in
    record {
      room = omega (arith, c.saturating_sub-room.ensures, l.invariant.room);
      copies = taken c.args.version l.copies c.push.new.self (filter m (drop l.from c.args.ledger.now))
          (filter m (drop found.behind c.args.ledger.now))
          (readable c.args.version (batch_of (take c.args.most (filter m c.args.ledger.now)))) l.room
          (c.args.most - l._n) (c.args.most - (l._n + 1)) c.size_of-size.result c.saturating_sub-room.result found.op some
          fits c.size_of-size.ensures l.invariant.room c.saturating_sub-room.ensures
          (sym c.can_read.ensures ∙ c.if-not-can_read.false) there c.in_ok-push.ensures.ok l.invariant.copies;
    }
