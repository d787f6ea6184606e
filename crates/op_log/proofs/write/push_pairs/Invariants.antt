-- The loop of `push_pairs`: those passed so far are written, and fit.
use Rattle.std.proofs.Common.{◌≡◌, ◌++◌, take, flat_map}
use Rattle.std.specs.List.{AllByRecursion}
use Rattle.op_log.specs.Fits.{FitsCounted}
use Rattle.op_log.specs.Packed.{counted_bytes}
use Rattle.op_log.proofs.write.push_pairs.Given as goal

abbrev pub invariant-loop-pair : goal.invariant-loop-pair
invariant-loop-pair l = record {
  bytes : l.bytes.items ≡ l.initial.bytes.items ++ flat_map counted_bytes (take l.pair-index l.pairs);
  fits : AllByRecursion FitsCounted (take l.pair-index l.pairs);
}
