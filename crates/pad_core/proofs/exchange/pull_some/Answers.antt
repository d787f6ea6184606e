use Rattle.std.proofs.Common.{◌≡◌, IsErrAnd, sym, subst, ◌∙◌, arith}
use Rattle.std.proofs.lemmas.Bool.{ne_eqb}
use Rattle.std.proofs.Common.{le-ltb}
use Rattle.pad_model.proofs.Exits.{tells_memory}
use Rattle.pad_core.specs.declared.exchange.TheConstants.{MAX_PULL}
use Rattle.pad_core.proofs.Pulled.{pull_answered}
use Rattle.pad_core.proofs.exchange.pull_some.Goals as goal

pub returns-in_err-missing : goal.returns-in_err-missing
returns-in_err-missing g c =
    tells_memory c.from_residual.result (subst (λ m. IsErrAnd c.from_residual.result (λ e. e ≡ m))
    c.in_err-missing.ensures c.from_residual.ensures.1)
    (pull_answered c.args.version c.args.seen.now c.args.max c.args.ledger.now (ne_eqb c.args.max 0 (omega (arith, c.requires.some)))
    (le-ltb MAX_PULL c.args.max c.requires.few) (sym c.can_give.ensures ∙ c.if-not-can_give.false))
