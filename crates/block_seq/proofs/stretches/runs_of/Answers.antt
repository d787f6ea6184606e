use Rattle.std.proofs.Common.{◌+◌, ◌∷◌, ◌++◌, [], drop, map, ap, ap₂, ◌∙◌}
use Rattle.std.specs.List.{prefix_len}
use Rattle.pad_model.specs.Visible.{runs, same_author}
use Rattle.pad_model.specs.declared.who.Author.{Author}
use Rattle.pad_model.specs.declared.who.AuthorRun.{AuthorRun}
use Rattle.block_seq.proofs.Fronts.{runs-step, rest_all, within}
use Rattle.block_seq.proofs.stretches.runs_of.Goals as goal

pub loop-place-preserved : goal.loop-place-preserved
loop-place-preserved c = (
  within c.loop-place.place c.count_same-more.result c.args.authors.now c.loop-place-test.true
      (c.count_same-more.ensures.within),
  ap (λ l. l ++ runs (map (λ author. author.now)
      (drop (c.loop-place.place + (c.count_same-more.result + 1)) c.args.authors.now)))
      (c.in_ok-push.ensures.items ∙ ap (λ a. c.loop-place.runs.items
      ++ (let run : AuthorRun = record { author = a; len = c.count_same-more.result + 1 } in run) ∷ [])
      (ap₂ (λ name origin. let it : Author = record { name = name; origin = origin } in
      it) c.in_ok-clone.ensures.cases.0 c.in_ok-clone.ensures.cases.1))
      ∙ runs-step (λ author. author.now) c.args.authors.now c.loop-place.place c.index-authors-place.result
      c.count_same-more.result c.loop-place.runs.items c.loop-place-test.true c.index-authors-place.is
      (c.count_same-more.ensures.value ∙ ap (prefix_len (λ y. same_author c.index-authors-place.result.now y.now))
      (rest_all c.args.authors.now (c.loop-place.place + 1)))
      ∙ c.loop-place.invariant.1,
)
