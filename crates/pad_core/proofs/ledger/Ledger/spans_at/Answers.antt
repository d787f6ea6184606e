use Rattle.std.proofs.Common.{◌≡◌, ◌+◌, ◌≤◌, ap, sym, subst, ◌∙◌, length, MatchResult}
use Rattle.pad_model.specs.Visible.{spans_of, visible}
use Rattle.pad_model.specs.declared.refusal.Refusal.TheVariants.{Memory}
use Rattle.pad_core.specs.Counts.{characters_at}
use Rattle.pad_core.proofs.Shows.{length-kept, spans-kept}
use Rattle.pad_core.proofs.ledger.Ledger.spans_at.Goals as goal

pub spans_at-requires : goal.spans_at-requires
spans_at-requires g c =
    subst (λ n. c.args.at + c.args.len ≤ n)
    (sym (length-kept c.self.inside.log.operations (g.S.Sequence.cells c.self.inside.sequence) c.args.rev
    c.self.invariant.delivered.history c.self.invariant.kept
    ∙ ap (λ log. length (visible (characters_at c.args.rev log))) c.self.view_is))
    c.requires

pub returns : goal.returns
returns g c =
    subst (λ shown. MatchResult c.spans_at.result (λ spans. spans ≡ shown) (λ e. e ≡ Memory))
    (spans-kept c.self.inside.log.operations (g.S.Sequence.cells c.self.inside.sequence) c.args.rev c.args.at c.args.len
    c.self.invariant.delivered.history c.self.invariant.kept
    ∙ ap (λ log. spans_of (characters_at c.args.rev log) c.args.at c.args.len) c.self.view_is)
    c.spans_at.ensures
