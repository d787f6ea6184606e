-- The loop of `rebuild`: the records that are left lead from the pad so far to where all lead.
use Rattle.std.proofs.Common.{◌≡◌}
use Rattle.store_records.specs.Records.{rebuilt, replay_all}
use Rattle.store_records.proofs.again.rebuild.Given as goal

-- the records that are left lead from the pad so far to where all lead
abbrev pub invariant-loop-kept : goal.invariant-loop-kept
invariant-loop-kept g l = replay_all l.kept-iterator.rest.items l.pad ≡ rebuilt l.replica l.present l.fn.records.items
