use Rattle.std.proofs.Common.{◌≡◌, ℕ, List, ◌∷◌, ◌++◌, [], sym, ap, ap₂, ◌∙◌, append-nil}
use Rattle.pad_model.specs.declared.piece.Piece.{Piece}
use Rattle.pad_model.specs.declared.piece.Piece.TheVariants.{Insert}
use Rattle.pad_model.specs.declared.who.Author.{Author}
use Rattle.block_seq.specs.PieceLists.{with_piece}
use Rattle.block_seq.proofs.PieceLists.{alike-text, inserts, with-apart}
use Rattle.block_seq.proofs.RowLists.{empty_list}
use Rattle.block_seq.proofs.pieces.add_inserted.Goals as goal
use Rattle.block_seq.proofs.pieces.add_inserted.Goals.{in-Some+else-inserts_of+in_ok-push-2, in_default}

pub returns-then-inserts_of : goal.returns-then-inserts_of
returns-then-inserts_of c =
    c.in_ok-push.ensures.items
    ∙ ap (λ (x : Piece). c.pop.new.self.items ++ x ∷ []) c.in_ok-extended.ensures
    ∙ inserts c.pop.new.self.items c.in-Some.last c.args.author.now c.args.more.now
    (sym c.inserts_of.ensures ∙ c.if-inserts_of.true)
    ∙ ap (λ l. with_piece l (Insert c.args.author.now c.args.more.now)) (sym c.in-Some.ensures.items)

-- the insertion that is added
added : (c : goal.In_ok-push-3) → Insert c.in_ok-author.author c.from_vec-text.result
    ≡ Insert c.args.author.now c.args.more.now
added c =
    ap₂ (λ (a : Author) (t : List ℕ). Insert a t)
    (ap₂ (λ name origin. let it : Author = record { name = name; origin = origin } in it) c.in_ok-author.ensures.cases.0
    c.in_ok-author.ensures.cases.1)
    (c.from_vec-text.ensures ∙ c.in_ok-from_slice.ensures.items)

pub returns : goal.returns
returns c = elim c.match-pop.branch [
  | in-Some+else-inserts_of+in_ok-push-2 w ↦
      c.in_ok-push-3.ensures.items
      ∙ ap₂ (λ l (x : Piece). l ++ x ∷ [])
      (ap (λ v. v.items) w.pieces-is ∙ w.in_ok-push-2.ensures.items) (added c)
      ∙ sym (with-apart c.pop.new.self.items w.in-Some.last (Insert c.args.author.now c.args.more.now)
      (alike-text w.in-Some.last c.args.author.now c.args.more.now [] ∙ sym w.inserts_of.ensures
      ∙ w.if-inserts_of.false))
      ∙ ap (λ l. with_piece l (Insert c.args.author.now c.args.more.now)) (sym w.in-Some.ensures.items)
  | in_default w ↦
      let size = c.args.pieces.now.ok.0 in
      let none = empty_list c.args.pieces.now.items (sym size ∙ w.in_default.ensures.cases.0) in
      c.in_ok-push-3.ensures.items
      ∙ ap₂ (λ l (x : Piece). l ++ x ∷ []) (ap (λ v. v.items) w.pieces-is
      ∙ sym (w.in_default.ensures.items ∙ append-nil c.pop.new.self.items) ∙ none) (added c)
      ∙ ap (λ l. with_piece l (Insert c.args.author.now c.args.more.now)) (sym none)
]
