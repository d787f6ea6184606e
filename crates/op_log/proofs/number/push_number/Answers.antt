use Rattle.std.proofs.Common.{◌++◌, List, ℕ, sym, ap, ◌∙◌, arith, append_assoc, length-append, refl}
use Rattle.std.proofs.lemmas.List.{take_all, take-append-le}
use Rattle.std.proofs.lemmas.Result.{err_from_is_err_and}
use Rattle.op_log.specs.Number.{number_bytes}
use Rattle.op_log.proofs.Numbers.{number_small, number_large, higher_below}
use Rattle.op_log.proofs.number.push_number.Goals as goal

pub loop-rest-init : goal.loop-rest-init
loop-rest-init c = record {
  bytes = refl;
  bound = omega arith;
  kept = take_all _ c.args.bytes.now.items (omega (arith, c.args.bytes.now.ok.0));
  long = omega (arith, c.args.bytes.now.ok.0);
}

pub loop-rest-preserved : goal.loop-rest-preserved
loop-rest-preserved c =
    let below = higher_below c.loop-rest.rest c.loop-rest-test.true in
    let long = c.loop-rest.invariant.long in
    record {
      bytes = rw c.in_ok-push.ensures.items (append_assoc c.loop-rest.bytes.items _ (number_bytes _)
          ∙ ap (λ (b : List ℕ). c.loop-rest.bytes.items ++ b) (sym (number_large c.loop-rest.rest
          c.loop-rest-test.true)) ∙ c.loop-rest.invariant.bytes);
      bound = omega arith;
      kept = rw (c.in_ok-push.ensures.items, take-append-le) c.loop-rest.invariant.kept;
      long = rw (c.in_ok-push.ensures.items, length-append) (omega arith);
    }

pub returns-in_err-push-clause-err : goal.returns-in_err-push-clause-err
returns-in_err-push-clause-err c =
    let p = err_from_is_err_and c.from_residual.result c.from_residual.ensures.1 in
    rw (p.1, c.in_err-push.ensures.items) c.loop-rest.invariant.kept

pub returns-in_err-push-2-clause-err : goal.returns-in_err-push-2-clause-err
returns-in_err-push-2-clause-err c =
    let p = err_from_is_err_and c.from_residual-in_err-push-2.result c.from_residual-in_err-push-2.ensures.1 in
    rw (p.1, c.in_err-push-2.ensures.items) c.loop-rest.invariant.kept

pub returns-clause-ok : goal.returns-clause-ok
returns-clause-ok c =
    rw c.in_ok-push-2.ensures.items (ap (λ (b : List ℕ). c.loop-rest.bytes.items ++ b)
    (sym (number_small c.loop-rest.rest c.loop-rest-test.false)) ∙ c.loop-rest.invariant.bytes)
