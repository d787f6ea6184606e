use Rattle.std.proofs.Common.{◌∙◌}
use Rattle.wire_lines.proofs.Written.{written_more, written_in, took_some}
use Rattle.wire_lines.proofs.write.write_all.Goals as goal

pub loop-written-preserved : goal.loop-written-preserved
loop-written-preserved g c = record {
  in_range = written_in c.args.bytes.now c.loop-written.written _ c.loop-written.invariant.in_range
      c.in-Ok.ensures.bound;
  front = written_more c.args.bytes.now c.loop-written.written _ _ _ _ c.loop-written.invariant.front
      c.in-Ok.ensures.bytes;
  failures = c.in-Ok.ensures.failures ∙ took_some _ _ _ _ c.if-count-gt0.true ∙ c.loop-written.invariant.failures;
}
