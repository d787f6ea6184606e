use Rattle.std.proofs.Common.{◌≡◌, Result, Err, sym, ap, subst, ◌∙◌, arith}
use Rattle.std.proofs.lemmas.Grind.{common_steps}
use Rattle.std.proofs.lemmas.Result.{err_from_is_err_and}
use Rattle.wire_lines.specs.Causes.{AreCounted}
use Rattle.wire_lines.specs.declared.buffer.FoundLine.{FoundLine}
use Rattle.wire_lines.specs.declared.fault.Fault.{Fault}
use Rattle.wire_lines.proofs.Counts.{counted_both, counted_fault}
use Rattle.wire_lines.proofs.buffer.LineBuffer.search.Goals as goal

pub loop-found-preserved : goal.loop-found-preserved
loop-found-preserved g c =
    let before = c.loop-found.invariant in
    record {
      kept = grind (arith, common_steps);
      less = grind (arith, common_steps);
      fault = grind (arith, common_steps);
      failures = grind (arith, common_steps);
      counted =
          counted_both (g.R.Source.reads c.args.source.now) (g.R.Source.reads c.loop-found.source)
          (g.R.Source.reads c.receive_from.new.source) c.args.self.now.reads c.loop-found.self-inside.inlet.reads
          c.receive_from.new.inlet.reads before.counted c.in_ok-receive_from.ensures.counted;
    }

pub returns-in_err-receive_from-clause-counted : goal.returns-in_err-receive_from-clause-counted
returns-in_err-receive_from-clause-counted g c =
    let exit = err_from_is_err_and c.from_residual.result c.from_residual.ensures.1 in
    let passed : c.from_residual.result ≡ Err c.in_err-receive_from.field-0.0 = exit.1 ∙ ap Err exit.2 in
    subst (λ (r : Result FoundLine Fault). AreCounted r (g.R.Source.reads c.args.source.now)
    (g.R.Source.reads c.receive_from.new.source) c.args.self.now.reads c.receive_from.new.inlet.reads) (sym passed)
    (counted_fault (Unit {0}) FoundLine (g.R.Source.reads c.args.source.now) (g.R.Source.reads c.loop-found.source)
    (g.R.Source.reads c.receive_from.new.source) c.args.self.now.reads c.loop-found.self-inside.inlet.reads
    c.receive_from.new.inlet.reads c.in_err-receive_from.field-0.0 c.loop-found.invariant.counted
    c.in_err-receive_from.ensures.counted)
