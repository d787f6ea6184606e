use Rattle.std.proofs.Common.{◌≡◌, ap, subst, ◌∙◌, MatchResult}
use Rattle.pad_model.specs.History.{cells_of}
use Rattle.pad_model.specs.Pieces.{changes}
use Rattle.pad_model.specs.declared.refusal.Refusal.TheVariants.{Memory}
use Rattle.pad_core.proofs.ledger.Ledger.changes.Goals as goal

pub returns : goal.returns
returns g c =
    subst (λ shown. MatchResult c.changes.result (λ pieces. pieces ≡ shown) (λ e. e ≡ Memory))
    (ap (changes c.args.rev c.args.to) c.self.invariant.kept
    ∙ ap (λ log. changes c.args.rev c.args.to (cells_of log)) c.self.view_is)
    c.changes.ensures
