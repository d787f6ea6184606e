use Rattle.std.proofs.Common.{sym, ap₂, ◌∙◌}
use Rattle.pad_model.specs.Operation.{characters_in}
use Rattle.pad_model.specs.Visible.{caret_of}
use Rattle.pad_core.proofs.Shows.{through-found, through-missing}
use Rattle.pad_core.proofs.ledger.Ledger.caret_place.Goals as goal

pub returns-in-Some-through : goal.returns-in-Some-through
returns-in-Some-through g c =
    through-found c.self.inside.log.operations (g.S.Sequence.cells c.self.inside.sequence) c.len-now.result
    c.in-Some-through.place c.in-Some.stamp c.self.invariant.delivered.history c.self.invariant.kept c.len-now.ensures
    (sym c.through.ensures ∙ c.in-Some-through.is)
    ∙ ap₂ (λ log caret. caret_of (characters_in log) caret) c.self.view_is (sym c.in-Some.is)

pub returns-in-None : goal.returns-in-None
returns-in-None g c =
    c.len_at.ensures
    ∙ through-missing c.self.inside.log.operations (g.S.Sequence.cells c.self.inside.sequence) c.len-now.result
    c.in-Some.stamp c.self.invariant.delivered.history c.self.invariant.kept c.len-now.ensures (sym c.through.ensures
    ∙ c.in-None.is)
    ∙ ap₂ (λ log caret. caret_of (characters_in log) caret) c.self.view_is (sym c.in-Some.is)
