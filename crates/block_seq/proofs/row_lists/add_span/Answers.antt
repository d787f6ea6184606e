use Rattle.std.proofs.Common.{◌-◌, ◌∷◌, ◌++◌, [], sym, ap, ◌∙◌, arith, vec_len, refl}
use Rattle.pad_model.specs.declared.op.Span.{Span}
use Rattle.block_seq.specs.RowLists.{with_stamps}
use Rattle.block_seq.proofs.RowLists.{get_here, set_itself, empty_list, none_there, stamps-join, stamps-apart}
use Rattle.block_seq.proofs.row_lists.add_span.Goals as goal
use Rattle.block_seq.proofs.row_lists.add_span.Goals.{in-Some+else-continues, in_default}

pub returns-then-continues : goal.returns-then-continues
returns-then-continues c =
    let some = c.in-Some.ensures.variant.0 refl in
    let size = c.args.spans.now.ok.0 in
    sym (stamps-join c.args.spans.now.items (vec_len c.args.spans.now - 1) c.in-Some.last.now c.args.first c.args.len
    (get_here c.args.spans.now.items (vec_len c.args.spans.now - 1) c.in-Some.last.now (omega (arith, some, size))
    c.in-Some.ensures.value) (omega (arith, some, size)) (sym c.continues.ensures ∙ c.if-continues.true))

pub returns : goal.returns
returns c = elim c.match-last_mut.branch [
  | in-Some+else-continues w ↦
      let some = w.in-Some.ensures.variant.0 refl in
      let size = c.args.spans.now.ok.0 in
      let here = get_here c.args.spans.now.items (vec_len c.args.spans.now - 1) w.in-Some.last.now
      (omega (arith, some, size)) w.in-Some.ensures.value in
      c.in_ok-push.ensures.items
      ∙ ap (λ l. l ++ (let it : Span = record { first = c.args.first; len = c.args.len } in it) ∷ [])
      (ap (λ v. v.items) w.spans-is ∙ set_itself c.args.spans.now.items (vec_len c.args.spans.now
      - 1) w.in-Some.last.now here)
      ∙ sym (stamps-apart c.args.spans.now.items (vec_len c.args.spans.now - 1) w.in-Some.last.now c.args.first
      c.args.len here (omega (arith, some, size)) (sym w.continues.ensures ∙ w.if-continues.false))
  | in_default w ↦
      let size = c.args.spans.now.ok.0 in
      let none = empty_list c.args.spans.now.items
      (sym size ∙ none_there (vec_len c.args.spans.now) w.in_default.ensures.variant.1) in
      c.in_ok-push.ensures.items
      ∙ ap (λ l. l ++ (let it : Span = record { first = c.args.first; len = c.args.len } in it) ∷ [])
      (ap (λ v. v.items) w.spans-is ∙ none)
      ∙ ap (λ l. with_stamps l c.args.first c.args.len) (sym none)
]
