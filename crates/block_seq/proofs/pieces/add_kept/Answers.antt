use Rattle.std.proofs.Common.{◌∷◌, ◌++◌, [], sym, ap, ◌∙◌, append-nil}
use Rattle.pad_model.specs.declared.piece.Piece.TheVariants.{Keep}
use Rattle.block_seq.specs.PieceLists.{with_piece}
use Rattle.block_seq.proofs.PieceLists.{keeps, kept-none, with-apart}
use Rattle.block_seq.proofs.RowLists.{empty_list}
use Rattle.block_seq.proofs.pieces.add_kept.Goals as goal
use Rattle.block_seq.proofs.pieces.add_kept.Goals.{in-Some+in_default-kept_by+in_ok-push-2, in_default}

pub returns-in-Some-kept_by : goal.returns-in-Some-kept_by
returns-in-Some-kept_by c =
    c.in_ok-push.ensures.items
    ∙ keeps c.pop.new.self.items c.in-Some.last c.in-Some-kept_by.kept c.args.len (sym c.in-Some-kept_by.ensures)
    ∙ ap (λ l. with_piece l (Keep c.args.len)) (sym c.in-Some.ensures.items)

pub returns : goal.returns
returns c = elim c.match-pop.branch [
  | in-Some+in_default-kept_by+in_ok-push-2 w ↦
      c.in_ok-push-3.ensures.items
      ∙ ap (λ l. l ++ Keep c.args.len ∷ []) (ap (λ v. v.items) w.pieces-is ∙ w.in_ok-push-2.ensures.items)
      ∙ sym (with-apart c.pop.new.self.items w.in-Some.last (Keep c.args.len)
      (kept-none w.in-Some.last c.args.len (sym w.in_default-kept_by.ensures)))
      ∙ ap (λ l. with_piece l (Keep c.args.len)) (sym w.in-Some.ensures.items)
  | in_default w ↦
      let size = c.args.pieces.now.ok.0 in
      let none = empty_list c.args.pieces.now.items (sym size ∙ w.in_default.ensures.cases.0) in
      c.in_ok-push-3.ensures.items
      ∙ ap (λ l. l ++ Keep c.args.len ∷ []) (ap (λ v. v.items) w.pieces-is
      ∙ sym (w.in_default.ensures.items ∙ append-nil c.pop.new.self.items) ∙ none)
      ∙ ap (λ l. with_piece l (Keep c.args.len)) (sym none)
]
