use Rattle.std.proofs.Common.{◌≡◌, ◌++◌, ◌∷◌, [], false, ℕ, List, sym, ap, ◌∙◌, subst}
use Rattle.std.specs.Prelude.{bytes_eq}
use Rattle.std.specs.List.{AllByRecursion, IsDistinct}
use Rattle.std.proofs.lemmas.Slice.Eq.{bytes_eq-Decides}
use Rattle.std.proofs.lemmas.List.Quantifiers.{position-Some}
use Rattle.op_log.proofs.Names.{absent, distinct_push}
use Rattle.op_log.proofs.op_store.place_of.Goals as goal

pub returns-in-Some-clause-place : goal.returns-in-Some-clause-place
returns-in-Some-clause-place c =
    let found = position-Some (λ (one : List ℕ). bytes_eq one c.args.name.now) c.args.authors.now.items c.in-Some.place []
    (rw (← c.deref.ensures.value) (sym c.find_name.ensures ∙ c.in-Some.is)) in
    (found.0, (bytes_eq-Decides _ _).0 found.1)

pub returns-clause-once : goal.returns-clause-once
returns-clause-once c = λ d.
    let known = c.args.authors.now.items in
    let copied : c.in_ok-clone.field-0 ≡ c.args.name.now = c.in_ok-clone.ensures.cases in
    subst (IsDistinct bytes_eq)
    (sym (c.in_ok-push.ensures.items ∙ ap (λ (name : List ℕ). known ++ name ∷ []) copied))
    (distinct_push bytes_eq known c.args.name.now d
    (subst (AllByRecursion (λ (one : List ℕ). bytes_eq one c.args.name.now ≡ false)) c.deref.ensures.value
    (absent (λ (one : List ℕ). bytes_eq one c.args.name.now) c.deref.result.now (sym c.find_name.ensures ∙ c.in_default.is))))
