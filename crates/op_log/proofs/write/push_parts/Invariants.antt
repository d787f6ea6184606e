-- The loop of `push_parts`: those passed so far are written, and fit.
use Rattle.std.proofs.Common.{◌≡◌, ◌++◌, take, flat_map}
use Rattle.std.specs.List.{AllByRecursion}
use Rattle.op_log.specs.Fits.{FitsPart}
use Rattle.op_log.specs.Packed.{part_bytes}
use Rattle.op_log.proofs.write.push_parts.Given as goal

abbrev pub invariant-loop-part : goal.invariant-loop-part
invariant-loop-part l = record {
  bytes : l.bytes.items ≡ l.initial.bytes.items ++ flat_map part_bytes (take l.part-index l.parts);
  fits : AllByRecursion FitsPart (take l.part-index l.parts);
}
