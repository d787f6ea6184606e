use Rattle.std.proofs.Common.{◌≡◌, ◌-◌, ◌∷◌, ◌++◌, [], sym, ap, ap₂, ◌∙◌, arith, vec_len, refl}
use Rattle.pad_model.specs.declared.who.Author.{Author}
use Rattle.pad_model.specs.declared.who.AuthorRun.{AuthorRun}
use Rattle.block_seq.specs.RowLists.{with_more}
use Rattle.block_seq.proofs.RowLists.{get_here, set_itself, empty_list, none_there, more-joins, more-apart}
use Rattle.block_seq.proofs.row_lists.add_run.Goals as goal
use Rattle.block_seq.proofs.row_lists.add_run.Goals.{in-Some+else-eq, in_default}

pub returns-then-eq : goal.returns-then-eq
returns-then-eq c =
    let some = c.in-Some.ensures.variant.0 refl in
    let size = c.args.runs.now.ok.0 in
    sym (more-joins c.args.runs.now.items (vec_len c.args.runs.now - 1) c.in-Some.last.now c.args.author.now c.args.len
    (get_here c.args.runs.now.items (vec_len c.args.runs.now - 1) c.in-Some.last.now (omega (arith, some, size))
    c.in-Some.ensures.value) (omega (arith, some, size)) (sym c.eq.ensures ∙ c.if-eq.true))

-- the run that is added
added : (c : goal.In_ok-push) → (let it : AuthorRun = record { author = c.in_ok-author.author; len = c.args.len } in it)
    ≡ (let it : AuthorRun = record { author = c.args.author.now; len = c.args.len } in it)
added c = ap (λ (a : Author). let it : AuthorRun = record { author = a; len = c.args.len } in it)
    (ap₂ (λ name origin. let it : Author = record { name = name; origin = origin } in it) c.in_ok-author.ensures.cases.0
    c.in_ok-author.ensures.cases.1)

pub returns : goal.returns
returns c = elim c.match-last_mut.branch [
  | in-Some+else-eq w ↦
      let some = w.in-Some.ensures.variant.0 refl in
      let size = c.args.runs.now.ok.0 in
      let here = get_here c.args.runs.now.items (vec_len c.args.runs.now - 1) w.in-Some.last.now
      (omega (arith, some, size)) w.in-Some.ensures.value in
      c.in_ok-push.ensures.items
      ∙ ap₂ (λ l (x : AuthorRun). l ++ x ∷ [])
      (ap (λ v. v.items) w.runs-is ∙ set_itself c.args.runs.now.items (vec_len c.args.runs.now - 1) w.in-Some.last.now
      here) (added c)
      ∙ sym (more-apart c.args.runs.now.items (vec_len c.args.runs.now - 1) w.in-Some.last.now c.args.author.now
      c.args.len here (omega (arith, some, size)) (sym w.eq.ensures ∙ w.if-eq.false))
  | in_default w ↦
      let size = c.args.runs.now.ok.0 in
      let none = empty_list c.args.runs.now.items
      (sym size ∙ none_there (vec_len c.args.runs.now) w.in_default.ensures.variant.1) in
      c.in_ok-push.ensures.items
      ∙ ap₂ (λ l (x : AuthorRun). l ++ x ∷ []) (ap (λ v. v.items) w.runs-is ∙ none) (added c)
      ∙ ap (λ l. with_more l c.args.author.now c.args.len) (sym none)
]
