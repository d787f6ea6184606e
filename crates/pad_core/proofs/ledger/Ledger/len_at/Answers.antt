use Rattle.std.proofs.Common.{ap, ◌∙◌, length}
use Rattle.pad_model.specs.Visible.{visible}
use Rattle.pad_core.specs.Counts.{characters_at}
use Rattle.pad_core.proofs.Shows.{length-kept}
use Rattle.pad_core.proofs.ledger.Ledger.len_at.Goals as goal

pub returns : goal.returns
returns g c =
    c.len_at.ensures ∙ length-kept c.self.inside.log.operations (g.S.Sequence.cells c.self.inside.sequence) c.args.rev
    c.self.invariant.delivered.history c.self.invariant.kept
    ∙ ap (λ log. length (visible (characters_at c.args.rev log))) c.self.view_is
