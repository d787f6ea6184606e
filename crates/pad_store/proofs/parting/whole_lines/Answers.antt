use Rattle.std.proofs.Common.{◌+◌, refl, arith}
use Rattle.pad_store.proofs.Partings.{ends, goes_on, shorter}
use Rattle.pad_store.proofs.parting.whole_lines.Goals as goal

pub loop-end-preserved : goal.loop-end-preserved
loop-end-preserved c = (
  rw c.in_ok-push.ensures.items (goes_on c.loop-end.lines.items _ c.loop-end.rest.now _ c.in-Some.end
      (c.in-Some.end + 1) _ (omega arith) refl refl c.in-Some.ensures c.loop-end.invariant.0),
  shorter c.loop-end.rest.now c.args.bytes.now (c.in-Some.end + 1) c.loop-end.invariant.1,
)

pub returns : goal.returns
returns c = ends _ c.loop-end.rest.now _ c.in_default.ensures c.loop-end.invariant.0
