use Rattle.std.proofs.Common.{sym, ap, subst, ◌∙◌, List}
use Rattle.std.specs.List.{find}
use Rattle.pad_model.specs.declared.op.Op.{Op}
use Rattle.holdback.specs.Held.{IsRising, is_ready}
use Rattle.holdback.proofs.Next.{next_of, none_ready}
use Rattle.holdback.proofs.held.Hold.next_ready.Goals as goal

-- the first that is ready
pub returns-clause-next : goal.returns-clause-next
returns-clause-next c =
    next_of c.args.seen.now c.args.self.now c.in_ok-op.op.now (subst IsRising c.self.view_is c.self.invariant.rising)
    (sym (c.in_ok-op.ensures ∙ ap (λ (ops : List Op). find (is_ready c.args.seen.now) ops)
    (c.deref.ensures.value ∙ c.self.view_is)))

-- there is none
pub returns-in_err-op-clause-next : goal.returns-in_err-op-clause-next
returns-in_err-op-clause-next c =
    rw c.from_residual.ensures
    (none_ready c.args.seen.now c.args.self.now
    (sym (c.in_err-op.ensures ∙ ap (λ (ops : List Op). find (is_ready c.args.seen.now) ops)
    (c.deref.ensures.value ∙ c.self.view_is))))
