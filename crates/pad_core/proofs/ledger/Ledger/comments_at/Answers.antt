use Rattle.std.proofs.Common.{sym, ap, ap₂, ◌∙◌, subst, ◌≡◌, take, MatchResult}
use Rattle.pad_core.specs.Comments.{comments_of}
use Rattle.pad_model.specs.History.{cells_of}
use Rattle.pad_model.specs.declared.refusal.Refusal.TheVariants.{Memory}
use Rattle.comments.specs.Comments.{AreHeld, born_by, comments_at as list_of}
use Rattle.pad_core.proofs.ListedComments.{held-book_of, comments_at-book_of}
use Rattle.pad_core.proofs.ledger.Ledger.comments_at.Goals as goal

-- src/ledger.rt:147:9
pub list_at-requires : goal.list_at-requires
list_at-requires g c =
    let log = c.self.inside.log.operations in
    let held = held-book_of log c.args.rev c.self.invariant.delivered in
    subst (λ cells. AreHeld cells (born_by c.args.rev c.self.inside.comments)) (sym c.self.invariant.kept)
    (subst (λ comments. AreHeld (cells_of log) (born_by c.args.rev comments)) (sym c.self.invariant.commented) held)

-- src/ledger.rt:144:5
pub returns : goal.returns
returns g c =
    let log = c.self.inside.log.operations in
    let rev = c.args.rev in
    let listed : list_of rev (g.S.Sequence.cells c.self.inside.sequence) c.self.inside.comments
    ≡ comments_of (take rev c.args.self.now) =
    ap₂ (list_of rev) c.self.invariant.kept c.self.invariant.commented
    ∙ comments_at-book_of log rev c.self.invariant.delivered ∙ ap (λ l. comments_of (take rev l)) c.self.view_is
    in
    subst (λ rows. MatchResult c.list_at.result (λ shown. shown ≡ rows) (λ e. e ≡ Memory)) listed c.list_at.ensures
