use Rattle.std.proofs.Common.{◌≡◌, ◌-◌, List, ℕ, Some, ap, ◌∙◌, subst, length, slice_get}
use Rattle.op_log.specs.Makers.{Makers}
use Rattle.op_log.proofs.MakerLists.{last_there}
use Rattle.op_log.proofs.maker_list.MakerList.last.Goals as goal

pub returns-in-Some : goal.returns-in-Some
returns-in-Some c =
    last_there c.args.self.now.makers c.in-Some.visit.now
    (subst (λ (vs : List ℕ). Some c.in-Some.visit.now ≡ slice_get vs (length vs - 1))
    (c.deref.ensures.value ∙ ap (λ (m : Makers). m.makers) c.self.view_is)
    c.in-Some.ensures.value)
