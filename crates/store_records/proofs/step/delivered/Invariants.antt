-- The loop of `delivered`: the records so far and those of the rest are all.
use Rattle.std.proofs.Common.{◌≡◌, ◌++◌, drop, map}
use Rattle.store_records.specs.declared.kept_record.Record.TheVariants.{Delivered}
use Rattle.store_records.proofs.step.delivered.Given as goal

-- the records so far and those of the rest are all
abbrev pub invariant-loop-op : goal.invariant-loop-op
invariant-loop-op l = l.records.items ++ map (Delivered l.at l.visit) (drop l.op-index l.more) ≡ map (Delivered l.at l.visit) l.more
