-- One more call answers by the order, and the calls after it still do.
use Rattle.std.proofs.Common.{[], ◌∷◌, refl}
use Rattle.std.proofs.lemmas.Fn.{called}
use Rattle.std.specs.Fn.{AlwaysReturns, Called}
use denote.Param.Members.{Mut}
use Rattle.weight_tree.proofs.rank.ask.Goals as goal

answers_next : {F X R : Type 0} (g : Mut F X R) (P : X → R → Type 0) (f : F) (a : X) (r : R) (f' : F) →
    Called g f a r f' → AlwaysReturns g P f → P a r × AlwaysReturns g P f'
answers_next g P f a r f' call always = (
  (always.at (a ∷ []) r f' call).0,
  record { at = λ xs. (always.at (a ∷ xs) r f' call).1 },
)

pub returns-clause-answer : goal.returns-clause-answer
returns-clause-answer g c =
    λ order by.
    let call = called g.F.FnMut c.f.ensures refl in
    let next = answers_next g.F.FnMut _ _ _ _ _ call by in
    (next.1, next.0)
