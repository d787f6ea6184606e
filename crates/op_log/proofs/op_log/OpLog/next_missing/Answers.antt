use Rattle.std.proofs.Common.{sym, ◌∙◌, arith}
use Rattle.op_log.specs.Log.{is_missing}
use Rattle.op_log.proofs.Next.{found_within}
use Rattle.op_log.proofs.Ranges.{next_none, next_found, found_there}
use Rattle.op_log.proofs.op_log.OpLog.next_missing.Goals as goal

pub returns-in_default-clause-ok : goal.returns-in_default-clause-ok
returns-in_default-clause-ok c =
    next_none (is_missing c.args.seen.now) c.args.from c.args.self.now.operations (sym c.in_default.ensures)

pub returns-in_default-2-clause-ok : goal.returns-in_default-2-clause-ok
returns-in_default-2-clause-ok c =
    absurd (found_there (is_missing c.args.seen.now) c.args.from c.in-Some.place c.args.self.now.operations
    (sym c.in-Some.ensures) (sym c.in_ok-op.ensures.ok ∙ c.in_default-2.is))

pub overflow_add-behind : goal.overflow_add-behind
overflow_add-behind c =
    let within = found_within (is_missing c.args.seen.now) c.args.from c.in-Some.place c.args.self.now.operations
    (sym c.in-Some.ensures) in
    omega (arith, within, c.len-len.ensures, c.len-len.type_inv)

pub returns-clause-ok : goal.returns-clause-ok
returns-clause-ok c =
    next_found (is_missing c.args.seen.now) c.args.from c.in-Some.place c.args.self.now.operations c.in-Some-2.op
    (sym c.in-Some.ensures) (sym c.in_ok-op.ensures.ok ∙ c.in-Some-2.is)
