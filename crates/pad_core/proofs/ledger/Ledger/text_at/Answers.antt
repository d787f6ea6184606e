use Rattle.std.proofs.Common.{◌≡◌, ap, subst, ◌∙◌, MatchResult}
use Rattle.pad_model.specs.Visible.{text_of}
use Rattle.pad_model.specs.declared.refusal.Refusal.TheVariants.{Memory}
use Rattle.pad_core.specs.Counts.{characters_at}
use Rattle.pad_core.proofs.Shows.{text-kept}
use Rattle.pad_core.proofs.ledger.Ledger.text_at.Goals as goal

pub returns : goal.returns
returns g c =
    subst (λ shown. MatchResult c.text_at.result (λ text. text ≡ shown) (λ e. e ≡ Memory))
    (text-kept c.self.inside.log.operations (g.S.Sequence.cells c.self.inside.sequence) c.args.rev
    c.self.invariant.delivered.history c.self.invariant.kept
    ∙ ap (λ log. text_of (characters_at c.args.rev log)) c.self.view_is)
    c.text_at.ensures
