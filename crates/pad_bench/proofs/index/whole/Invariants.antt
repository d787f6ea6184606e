-- The loop of `whole`: no stamp of a later replica is in the index.
use Rattle.std.proofs.Common.{◌+◌, ◌≤◌}
use Rattle.pad_model.specs.Stamp.{Stamp}
use Rattle.ident_index.specs.Index.{HoldsNone}
use Rattle.pad_bench.proofs.index.whole.Given as goal

abbrev pub invariant-loop-replica : goal.invariant-loop-replica
invariant-loop-replica l = (s : Stamp) → l.replica + 1 ≤ s.replica → HoldsNone l.index s
