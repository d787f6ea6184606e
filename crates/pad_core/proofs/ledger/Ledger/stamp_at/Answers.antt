use Rattle.std.proofs.Common.{ap, ◌∙◌}
use Rattle.pad_model.specs.Visible.{stamp_at}
use Rattle.pad_core.specs.Counts.{characters_at}
use Rattle.pad_core.proofs.Shows.{stamp-kept}
use Rattle.pad_core.proofs.ledger.Ledger.stamp_at.Goals as goal

pub returns : goal.returns
returns g c =
    c.stamp_at.ensures ∙ stamp-kept c.self.inside.log.operations (g.S.Sequence.cells c.self.inside.sequence) c.args.rev
    c.args.place c.self.invariant.delivered.history c.self.invariant.kept
    ∙ ap (λ log. stamp_at (characters_at c.args.rev log) c.args.place) c.self.view_is
