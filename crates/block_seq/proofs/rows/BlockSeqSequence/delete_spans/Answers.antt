use Rattle.std.proofs.Common.{◌≡◌, Bool, true, false, inr, sym, ap, ◌∙◌, subst}
use Rattle.pad_model.specs.Answers.{Answers}
use Rattle.pad_model.specs.Cell.{character_of}
use Rattle.pad_model.specs.Log.{has_spans}
use Rattle.block_seq.proofs.Kept.{delete-fault}
use Rattle.block_seq.proofs.RowSteps.{delete-ok}
use Rattle.block_seq.proofs.Views.{cells_seen}
use Rattle.block_seq.proofs.rows.BlockSeqSequence.delete_spans.Goals as goal
use Rattle.block_seq.proofs.rows.BlockSeqSequence.delete_spans.Goals.{After-has_spans}

there : (c : After-has_spans) (b : Bool) → c.has_spans.result ≡ b →
    has_spans character_of c.args.self.now.cells c.args.spans.now ≡ b
there c b e =
    ap (λ l. has_spans character_of l c.args.spans.now) (sym (cells_seen c.self.view_is))
    ∙ sym (c.has_spans.ensures c.self.inside.authors.items c.self.inside.text.items c.self.invariant.row.within) ∙ e

pub returns-then-not-has_spans-clause-answers : goal.returns-then-not-has_spans-clause-answers
returns-then-not-has_spans-clause-answers c =
    inr (delete-fault c.args.rev c.args.spans.now c.args.self.now.cells
    (there (goal.at.returns-then-not-has_spans-clause-answers c).After-has_spans false c.if-not-has_spans.true))

pub erase-requires-clause-there : goal.erase-requires-clause-there
erase-requires-clause-there c = there (goal.at.erase-requires-clause-there c).After-has_spans true
    c.if-not-has_spans.false

pub returns-clause-answers : goal.returns-clause-answers
returns-clause-answers c =
    subst (λ x. Answers c.args.self.now.cells x c.erase.result c.erase.new.self.cells)
    (sym (delete-ok c.args.rev c.args.spans.now c.args.self.now.cells
    (there (goal.at.returns-clause-answers c).After-has_spans true c.if-not-has_spans.false))) c.erase.ensures.answers
