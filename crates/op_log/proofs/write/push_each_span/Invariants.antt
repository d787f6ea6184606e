-- The loop of `push_each_span`: those passed so far are written, and fit.
use Rattle.std.proofs.Common.{◌≡◌, ◌++◌, take, flat_map}
use Rattle.std.specs.List.{AllByRecursion}
use Rattle.op_log.specs.Fits.{FitsSpan}
use Rattle.op_log.specs.Packed.{span_bytes}
use Rattle.op_log.proofs.write.push_each_span.Given as goal

abbrev pub invariant-loop-span : goal.invariant-loop-span
invariant-loop-span l = record {
  bytes : l.bytes.items ≡ l.initial.bytes.items ++ flat_map span_bytes (take l.span-index l.spans);
  fits : AllByRecursion FitsSpan (take l.span-index l.spans);
}
