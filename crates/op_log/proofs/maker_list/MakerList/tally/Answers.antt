use Rattle.std.proofs.Common.{◌≡◌, List, ℕ, sym, ap, ◌∙◌, slice_get, option_and_then}
use Rattle.std.proofs.lemmas.List.{drop_all}
use Rattle.op_log.specs.Makers.{Makers}
use Rattle.op_log.specs.declared.maker_list.Tally.{Tally}
use Rattle.op_log.proofs.MakerLists.{tally_from, tally_of, tally_made, tally_last}
use Rattle.op_log.proofs.maker_list.MakerList.tally.Goals as goal

-- what is returned is the tally of all
told : (c : goal.After-loop-place) → c.loop-place.tally ≡ tally_of c.args.visit c.args.self.now.makers
told c =
    let items : List ℕ = c.deref-maker-items.result.now in
    let same : items ≡ c.args.self.now.makers =
    c.deref-maker-items.ensures.value ∙ ap (λ (m : Makers). m.makers) c.self.view_is in
    sym (ap (tally_from c.args.visit c.loop-place.place c.loop-place.tally) (drop_all c.loop-place.place items c.loop-place-test.false))
    ∙ c.loop-place.invariant.rest ∙ ap (tally_of c.args.visit) same

pub returns-clause-made : goal.returns-clause-made
returns-clause-made c = λ log long. ap (λ (t : Tally). t.made) (told c) ∙ tally_made c.args.visit log c.args.self.now.makers long

pub returns-clause-last : goal.returns-clause-last
returns-clause-last c = λ log long.
    ap (λ (t : Tally). option_and_then (slice_get log) t.last) (told c)
    ∙ tally_last c.args.visit log c.args.self.now.makers long
