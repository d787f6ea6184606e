-- The loop of `copy_batch`: the copies so far and what the rest gives are all.
use Rattle.std.proofs.Common.{◌≡◌, ◌≤◌, ◌-◌, ◌++◌, drop, take, filter}
use Rattle.op_log.specs.Log.{is_missing}
use Rattle.pad_core.specs.Batch.{batch_of}
use Rattle.pad_core.specs.Exchange.{readable}
use Rattle.pad_core.specs.declared.exchange.TheConstants.{MAX_BATCH_BYTES}
use Rattle.pad_core.proofs.Batched.{rest_of}
use Rattle.pad_core.proofs.batch.copy_batch.Given as goal

-- the copies and what is given of the rest are all
abbrev pub invariant-loop-n : goal.invariant-loop-n
invariant-loop-n g l = record {
  room : l.room ≤ MAX_BATCH_BYTES;
  copies : l.copies ++ rest_of l.version l.copies l.room (l.most - l._n) (filter (is_missing l.seen) (drop l.from l.ledger))
      ≡ readable l.version (batch_of (take l.most (filter (is_missing l.seen) l.ledger)));
}
