-- One more operation, and one that is removed, by their places.
use Rattle.std.proofs.Common.{◌≡◌, ℕ, suc, not, List, [], ◌∷◌, Some, IsPermutation, refl, sym, ap, ◌∙◌, subst}
use Rattle.std.specs.List.{find, insert}
use Rattle.std.proofs.lemmas.Bool.{cond-true, cond-false}
use Rattle.std.proofs.lemmas.List.Sorted.{IsPermutation-insert, IsPermutation-sym}
use Rattle.pad_model.specs.declared.op.Op.{Op}
use Rattle.pad_model.specs.declared.op.OpName.{OpName}
use Rattle.pad_model.proofs.Newer.{split}
use Rattle.holdback.specs.Held.{IsRising, has_name, with_held, without}
use Rattle.pad_model.specs.Log.{precedes}
use Rattle.holdback.proofs.Places.{same_op, all_kept, others_behind_it}

place_with : (op : Op) (held : List Op) → (k : ℕ) × (insert held k op ≡ with_held op held)
place_with op [] = (0, refl)
place_with op (x ∷ held) =
    split (precedes x.name op.name)
    (λ e. let rest = place_with op held in (suc rest.0, ap (λ xs. x ∷ xs) rest.1 ∙ sym (cond-true _ _ _ e)))
    (λ e. (0, sym (cond-false _ _ _ e)))

pub permutation_with : (op : Op) (held : List Op) → IsPermutation (op ∷ held) (with_held op held)
permutation_with op held = let at = place_with op held in
    subst (IsPermutation (op ∷ held)) at.1 (IsPermutation-insert held at.0 op)

place_without : (name : OpName) (op : Op) (held : List Op) → IsRising held → find (has_name name) held ≡ Some op →
    (k : ℕ) × (insert (without name held) k op ≡ held)
place_without name op [] r is = cc
place_without name op (x ∷ held) r is =
    split (has_name name x)
    (λ e.
    let kept : without name (x ∷ held) ≡ held = cond-false _ _ _ (ap not e)
    ∙ all_kept held name (others_behind_it x held name r e) in
    (0, ap (λ xs. op ∷ xs) kept ∙ ap (λ o. o ∷ held) (sym (same_op x op (sym (cond-true _ _ _ e) ∙ is)))))
    (λ e.
    let rest = place_without name op held r.1 (sym (cond-false _ _ _ e) ∙ is) in
    (suc rest.0, ap (λ xs. insert xs (suc rest.0) op) (cond-true _ _ _ (ap not e)) ∙ ap (λ xs. x ∷ xs) rest.1))

pub permutation_without : (name : OpName) (op : Op) (held : List Op) → IsRising held → find (has_name name) held
    ≡ Some op → IsPermutation held (op ∷ without name held)
permutation_without name op held r is =
    let at = place_without name op held r is in
    IsPermutation-sym (op ∷ without name held) held (subst (IsPermutation (op ∷ without name held)) at.1
    (IsPermutation-insert (without name held) at.0 op))
