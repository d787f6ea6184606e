-- The first ready operation, where names rise.
use Rattle.std.proofs.Common.{◌≡◌, ◌⊎◌, ◌<◌, inl, inr, ◌+◌, Bool, true, List, [], ◌∷◌, Some, None, refl, sym, ap, ◌∙◌}
use Rattle.std.proofs.Common.{subst, arith, eq-eqb}
use Rattle.std.specs.List.{AllByRecursion, find}
use Rattle.std.proofs.lemmas.Bool.{and_parts, and_from, eqb-true, cond-true, cond-false, both_ways}
use Rattle.pad_model.specs.declared.op.Op.{Op}
use Rattle.pad_model.specs.declared.op.OpName.{OpName}
use Rattle.pad_model.specs.declared.seen.Counted.{Counted}
use Rattle.pad_model.specs.Seen.{count_in}
use Rattle.pad_model.proofs.Each.{each-imply}
use Rattle.pad_model.proofs.Newer.{split}
use Rattle.holdback.specs.Held.{IsRising, has_name, is_ready}
use Rattle.pad_model.specs.Log.{precedes}
use Rattle.holdback.specs.Next.{NoneIsReady, IsNext}
use Rattle.pad_model.proofs.Names.{precedes-cases, same-precedes}
use Rattle.holdback.proofs.Places.{same_op}

own_name : (op : Op) → has_name op.name op ≡ true
own_name op = and_from _ _ (eq-eqb op.name.origin op.name.origin refl) (eq-eqb op.name.number op.name.number refl)

-- what is found has the property of all, and passes the test
found_has : (P : Op → Type 0) (t : Op → Bool) (held : List Op) (op : Op) → AllByRecursion P held → find t held
    ≡ Some op → P op × (t op ≡ true)
found_has P t [] op h is = cc
found_has P t (x ∷ held) op h is =
    split (t x)
    (λ e. let same = same_op x op (sym (cond-true _ _ _ e) ∙ is) in subst (λ o. P o × (t o ≡ true)) same (h.0, e))
    (λ e. found_has P t held op h.1 (sym (cond-false _ _ _ e) ∙ is))

-- its name finds it
pub named_first : (t : Op → Bool) (held : List Op) (op : Op) → IsRising held → find t held ≡ Some op →
    find (has_name op.name) held ≡ Some op
named_first t [] op r is = cc
named_first t (x ∷ held) op r is =
    split (t x)
    (λ e. let same = same_op x op (sym (cond-true _ _ _ e) ∙ is) in
    subst (λ o. find (has_name o.name) (x ∷ held) ≡ Some o) same (cond-true _ _ _ (own_name x)))
    (λ e.
    let later : find t held ≡ Some op = sym (cond-false _ _ _ e) ∙ is in
    let lt = (found_has (λ o. precedes x.name o.name ≡ true) t held op r.0 later).0 in
    cond-false _ _ _ (same-precedes x.name op.name lt) ∙ named_first t held op r.1 later)

-- a ready operation is the next of its origin, so two of one origin have one number
ready_number : (seen : List Counted) (op : Op) → is_ready seen op ≡ true → op.name.number ≡ count_in seen op.name.origin
    + 1
ready_number seen op e = eqb-true _ _ (and_parts _ _ e).0

abbrev IsLeast : List Counted → List Op → OpName → Type 0
IsLeast seen held name = AllByRecursion (λ op. is_ready seen op ≡ true → (has_name name op ≡ true)
    ⊎ (name.origin < op.name.origin)) held

least_first : (seen : List Counted) (x : Op) (held : List Op) → IsRising (x ∷ held) → is_ready seen x ≡ true →
    IsLeast seen (x ∷ held) x.name
least_first seen x held r e = (
  λ _. inl (own_name x),
  each-imply (λ later. precedes x.name later.name ≡ true) (λ op. is_ready seen op ≡ true → (has_name x.name op ≡ true)
      ⊎ (x.name.origin < op.name.origin))
      (λ later lt ready. elim (precedes-cases x.name later.name lt) [
        | inl less ↦ inr less
        | inr same ↦ absurd (omega (
          arith,
          same.1,
          ready_number seen x e,
          ready_number seen later ready,
          ap (count_in seen) same.0,
        ))
      ]) held r.0,
)

least : (seen : List Counted) (held : List Op) (op : Op) → IsRising held → find (is_ready seen) held ≡ Some op →
    IsLeast seen held op.name
least seen [] op r is = tt
least seen (x ∷ held) op r is =
    split (is_ready seen x)
    (λ e. subst (λ o. IsLeast seen (x ∷ held) o.name) (same_op x op (sym (cond-true _ _ _ e) ∙ is))
    (least_first seen x held r e))
    (λ e. (λ ready. absurd (both_ways _ e ready), least seen held op r.1 (sym (cond-false _ _ _ e) ∙ is)))

each_tt : (held : List Op) → AllByRecursion (λ op. Unit {0}) held
each_tt [] = tt
each_tt (x ∷ held) = (tt, each_tt held)

pub next_of : (seen : List Counted) (held : List Op) (op : Op) → IsRising held → find (is_ready seen) held ≡ Some op →
    IsNext seen held op.name
next_of seen held op r is = record {
  ready = rw (named_first (is_ready seen) held op r is)
      (found_has (λ op. Unit {0}) (is_ready seen) held op (each_tt held) is).1;
  least = least seen held op r is;
}

pub none_ready : (seen : List Counted) (held : List Op) → find (is_ready seen) held ≡ None → NoneIsReady seen held
none_ready seen [] is = tt
none_ready seen (x ∷ held) is =
    split (is_ready seen x)
    (λ e. let some : Some x ≡ None = sym (cond-true _ _ _ e) ∙ is in cc)
    (λ e. (e, none_ready seen held (sym (cond-false _ _ _ e) ∙ is)))
