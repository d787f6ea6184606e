-- The loop of `copy_sayable`: the copies so far and what may be said of the rest are all.
use Rattle.std.proofs.Common.{◌≡◌, ◌++◌, drop}
use Rattle.pad_core.specs.Exchange.{sayable}
use Rattle.pad_core.proofs.exchange.copy_sayable.Given as goal

-- the copies and what may be said of the rest are all
abbrev pub invariant-loop-op : goal.invariant-loop-op
invariant-loop-op l = l.copies.items ++ sayable (drop l.op-index l.ops) ≡ sayable l.ops
