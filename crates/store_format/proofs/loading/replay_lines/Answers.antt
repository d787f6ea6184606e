use Rattle.std.proofs.Common.{rules, ◌+◌, refl, arith, string_bytes}
use Rattle.pad_core.proofs.Exits.{passed_on}
use Rattle.store_format.specs.Files.{so_far}
use Rattle.store_format.proofs.Feeds.{ends, fails, goes_on, torn_ends, torn_fails}
use Rattle.store_format.proofs.loading.replay_lines.Goals as goal

pub returns-in_err-check_torn-clause-read : goal.returns-in_err-check_torn-clause-read
returns-in_err-check_torn-clause-read g c =
    rw (passed_on c.from_residual-in_err-check_torn.result c.from_residual-in_err-check_torn.ensures.1)
    (torn_fails c.loop-end.number _ c.args.name.now (so_far c.loop-end.pad c.loop-end.last) c.loop-end.rest.now
    c.in-Some.end c.in_err-check_torn.field-0.0 _ (omega arith) c.in-Some.ensures (search rules)
    c.in_err-check_torn.ensures c.loop-end.invariant.0)

pub returns-in_default-2-clause-read : goal.returns-in_default-2-clause-read
returns-in_default-2-clause-read g c =
    torn_ends c.loop-end.number _ c.args.name.now (so_far c.loop-end.pad c.loop-end.last) c.loop-end.rest.now
    c.in-Some.end _ (omega arith) c.in-Some.ensures (search rules)
    (c.in_ok-check_torn.ensures _) c.loop-end.invariant.0

pub returns-in_err-last-clause-read : goal.returns-in_err-last-clause-read
returns-in_err-last-clause-read g c =
    rw (passed_on c.from_residual-in_err-last.result c.from_residual-in_err-last.ensures.1)
    (fails c.loop-end.number _ c.args.name.now (so_far c.loop-end.pad c.loop-end.last) c.loop-end.rest.now
    c.in-Some-2.text.now (string_bytes c.in-Some-2.sum) c.in-Some.end (c.loop-end.last.whole + c.in-Some.end + 1)
    c.in_err-last.field-0.0 _ (omega arith) refl c.in-Some.ensures (search rules) (search rules)
    c.in_err-last.ensures.read c.loop-end.invariant.0)

pub loop-end-preserved : goal.loop-end-preserved
loop-end-preserved g c =
    goes_on c.loop-end.number _ c.args.name.now (so_far c.loop-end.pad c.loop-end.last)
    (so_far c.enter.new.pad c.in_ok-last.last) c.loop-end.rest.now _ c.in-Some-2.text.now
    (string_bytes c.in-Some-2.sum) c.in-Some.end (c.in-Some.end + 1) (c.loop-end.last.whole + c.in-Some.end + 1) _ _ _
    (omega arith) (omega arith) refl refl c.in-Some.ensures (search rules) (search rules) c.in_ok-last.ensures.read
    c.in_ok-last.ensures.within c.loop-end.invariant

pub returns-clause-read : goal.returns-clause-read
returns-clause-read g c = ends c.loop-end.number c.args.name.now (so_far c.loop-end.pad c.loop-end.last)
    c.loop-end.rest.now _ c.in_default.ensures c.loop-end.invariant.0
