use Rattle.std.proofs.Common.{sym, ap, ◌∙◌}
use Rattle.pad_core.specs.Delivered.{delivery_refusal}
use Rattle.pad_core.proofs.push.deliver.Goals as goal

pub append-requires-clause-allowed : goal.append-requires-clause-allowed
append-requires-clause-allowed g c = ap (λ o. delivery_refusal o c.args.ledger.now) c.in_ok-op.ensures.cases
    ∙ sym c.refusal_of.ensures ∙ c.in_default.is
