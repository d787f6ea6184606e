use Rattle.std.proofs.Common.{rules, ◌+◌, ◌∙◌, refl, sym, arith}
use Rattle.store_format.proofs.Feeds.{begins_behind, begins_here, begins_nowhere, rest_short}
use Rattle.store_format.proofs.batch.has_beginning.Goals as goal

pub returns-then-branch : goal.returns-then-branch
returns-then-branch c =
    sym (begins_here c.loop-end.rest.now c.in-Some.end c.in-Some.ensures (search rules)) ∙ c.loop-end.invariant.0

pub loop-end-preserved : goal.loop-end-preserved
loop-end-preserved c = (
  begins_behind c.loop-end.rest.now _ c.in-Some.end (c.in-Some.end + 1) _ (omega arith) refl c.in-Some.ensures
      (search rules) c.loop-end.invariant.0,
  rest_short c.loop-end.rest.now (c.in-Some.end + 1) _ c.loop-end.invariant.1,
)

pub returns : goal.returns
returns c = sym (begins_nowhere c.loop-end.rest.now _ c.in_default.ensures c.loop-end.invariant.0)
