use Rattle.std.proofs.Common.{◌≡◌, ap, subst, ◌∙◌, MatchResult}
use Rattle.pad_model.specs.Visible.{runs_of}
use Rattle.pad_model.specs.declared.refusal.Refusal.TheVariants.{Memory}
use Rattle.pad_core.specs.Counts.{characters_at}
use Rattle.pad_core.proofs.Shows.{runs-kept}
use Rattle.pad_core.proofs.ledger.Ledger.runs_at.Goals as goal

pub returns : goal.returns
returns g c =
    subst (λ shown. MatchResult c.authors_at.result (λ runs. runs ≡ shown) (λ e. e ≡ Memory))
    (runs-kept c.self.inside.log.operations (g.S.Sequence.cells c.self.inside.sequence) c.args.rev
    c.self.invariant.delivered.history c.self.invariant.kept
    ∙ ap (λ log. runs_of (characters_at c.args.rev log)) c.self.view_is)
    c.authors_at.ensures
