-- The order of stamps is total, and distinguishes all stamps.
use Rattle.std.proofs.Common.{◌≡◌, true, false, refl, ap, inl, inr, ◌⊎◌}
use Rattle.std.proofs.lemmas.Bool.{cases_Bool}
use Rattle.std.specs.declared.cmp.Ordering.{Ordering}
use Rattle.std.specs.declared.cmp.Ordering.TheVariants.{Less, Equal, Greater}
use Rattle.std.specs.Ordering.{eq_by_cmp, is_eq, ordering_then}
use Rattle.std.specs.Cmp.{IsTotalOrder, nat_cmp_total, then_total, on_total, tied_itself}
use Rattle.std.specs.FinMap.{IsAntisymmetric, nat_cmp-IsAntisymmetric}
use Rattle.pad_model.specs.Stamp.{Stamp}
use Rattle.ident_index.specs.Index.{stamp_cmp}

pub stamp_cmp_total : IsTotalOrder stamp_cmp
stamp_cmp_total = then_total (on_total (λ (s : Stamp). s.replica) nat_cmp_total)
    (on_total (λ (s : Stamp). s.counter) nat_cmp_total)

then_first : (r s : Ordering) → ordering_then r s ≡ Equal → r ≡ Equal
then_first Less s e = e
then_first Equal s e = refl
then_first Greater s e = e

then_second : (r s : Ordering) → ordering_then r s ≡ Equal → s ≡ Equal
then_second Less s e = cc e
then_second Equal s e = e
then_second Greater s e = cc e

pub same_stamps : (a b : Stamp) → a.counter ≡ b.counter → a.replica ≡ b.replica → a ≡ b
same_stamps a b counter replica = λ i. record { counter = counter i; replica = replica i }

pub stamp_cmp-IsAntisymmetric : IsAntisymmetric stamp_cmp
stamp_cmp-IsAntisymmetric a b e =
    same_stamps a b (nat_cmp-IsAntisymmetric _ _ (then_second _ _ e)) (nat_cmp-IsAntisymmetric _ _ (then_first _ _ e))

Equal-from_is_eq : (r : Ordering) → is_eq r ≡ true → r ≡ Equal
Equal-from_is_eq Less e = cc e
Equal-from_is_eq Equal e = refl
Equal-from_is_eq Greater e = cc e

pub same_from_tied : (a b : Stamp) → eq_by_cmp stamp_cmp a b ≡ true → a ≡ b
same_from_tied a b e = stamp_cmp-IsAntisymmetric a b (Equal-from_is_eq _ e)

-- two stamps are equal, or the order distinguishes them
pub cases_stamps : (a b : Stamp) → (a ≡ b) ⊎ (eq_by_cmp stamp_cmp a b ≡ false)
cases_stamps a b = elim (cases_Bool (eq_by_cmp stamp_cmp a b)) [
  | inl same ↦ inl (same_from_tied a b same)
  | inr apart ↦ inr apart
]

pub tied : (a : Stamp) → eq_by_cmp stamp_cmp a a ≡ true
tied a = ap is_eq (tied_itself stamp_cmp_total a)

pub apart_stamps : (a b : Stamp) → (a ≡ b → ⊥) → eq_by_cmp stamp_cmp a b ≡ false
apart_stamps a b differ = elim (cases_stamps a b) [ inl same ↦ absurd (differ same) | inr apart ↦ apart ]
