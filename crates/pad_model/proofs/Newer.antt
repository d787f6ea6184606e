-- The order of stamps is a strict total order.
use Rattle.std.proofs.Common.{◌≡◌, ◌<◌, ◌⊎◌, inl, inr, Bool, true, false, refl, ap₂, arith, ltb-true, lt-ltb, le-ltb}
use Rattle.std.proofs.Common.{eq-eqb}
use Rattle.std.proofs.lemmas.Bool.{or_cases, and_parts, eqb-true, or_left, or_right, and_from, or_from, and_right}
use Rattle.std.proofs.lemmas.Bool.{cases_order, both_ways}
use Rattle.pad_model.specs.Stamp.{Stamp, newer, same_stamp}

-- cases on a test
pub split : {P : Type 0} (b : Bool) → (b ≡ true → P) → (b ≡ false → P) → P
split {P} b holds fails = elim b as (λ v. b ≡ v → P) [ true ↦ holds | false ↦ fails ] refl

-- a is newer than b, as a fact
abbrev pub IsNewer : Stamp → Stamp → Type 0
IsNewer a b = (b.counter < a.counter) ⊎ ((a.counter ≡ b.counter) × (b.replica < a.replica))

pub newer-true : (a b : Stamp) → newer a b ≡ true → IsNewer a b
newer-true a b e =
    elim (or_cases _ _ e) [
      | inl p ↦ inl (ltb-true _ _ p)
      | inr q ↦ let parts = and_parts _ _ q in inr (eqb-true _ _ parts.0, ltb-true _ _ parts.1)
    ]

pub newer_from : (a b : Stamp) → IsNewer a b → newer a b ≡ true
newer_from a b h =
    elim h [
      | inl p ↦ or_left _ _ (lt-ltb _ _ p)
      | inr q ↦ or_right _ _ (and_from _ _ (eq-eqb _ _ q.0) (lt-ltb _ _ q.1))
    ]

pub newer-irrefl : (a : Stamp) → newer a a ≡ false
newer-irrefl a = or_from _ _ (le-ltb a.counter a.counter (omega arith))
    (and_right _ _ (le-ltb a.replica a.replica (omega arith)))

pub newer-trans : (a b c : Stamp) → newer a b ≡ true → newer b c ≡ true → newer a c ≡ true
newer-trans a b c p q =
    newer_from a c
    (elim (newer-true a b p) [
      | inl x ↦ elim (newer-true b c q) [ inl y ↦ inl (omega arith) | inr y ↦ inl (omega (arith, y.0)) ]
      | inr x ↦ elim (newer-true b c q) [
        | inl y ↦ inl (omega (arith, x.0))
        | inr y ↦ inr (
          omega (arith, x.0, y.0),
          omega (arith, x.1, y.1),
        )
      ]
    ])

pub newer-asym : (a b : Stamp) → newer a b ≡ true → newer b a ≡ false
newer-asym a b p =
    split (newer b a) (λ q. absurd (both_ways _ (newer-irrefl a) (newer-trans a b a p q))) (λ q. q)

pub newer_of_counter : (a b : Stamp) → b.counter < a.counter → newer a b ≡ true
newer_of_counter a b h = newer_from a b (inl h)

pub same_stamp-true : (a b : Stamp) → same_stamp a b ≡ true → a ≡ b
same_stamp-true a b e =
    let parts = and_parts _ _ e in
    ap₂ (λ c r. let s : Stamp = record { counter = c; replica = r } in s) (eqb-true _ _ parts.0) (eqb-true _ _ parts.1)

pub same_stamp-refl : (a : Stamp) → same_stamp a a ≡ true
same_stamp-refl a = and_from _ _ (eq-eqb a.counter a.counter refl) (eq-eqb a.replica a.replica refl)

pub newer-total : (a b : Stamp) → newer a b ≡ false → newer b a ≡ false → a ≡ b
newer-total a b p q =
    elim (cases_order a.counter b.counter) [
      | inl e ↦ elim (cases_order a.replica b.replica) [
        | inl f ↦ same_stamp-true a b (and_from _ _ (eq-eqb _ _ e) (eq-eqb _ _ f))
        | inr (inl f) ↦ absurd (both_ways _ q (newer_from b a (inr (omega (arith, e), f))))
        | inr (inr f) ↦ absurd (both_ways _ p (newer_from a b (inr (e, f))))
      ]
      | inr (inl f) ↦ absurd (both_ways _ q (newer_of_counter b a f))
      | inr (inr f) ↦ absurd (both_ways _ p (newer_of_counter a b f))
    ]

pub same_stamp-sym : (a b : Stamp) → same_stamp a b ≡ same_stamp b a
same_stamp-sym a b =
    split (same_stamp a b)
    (λ e. rw (same_stamp-true a b e) refl)
    (λ e. split (same_stamp b a) (λ f. absurd (both_ways _ e (rw (same_stamp-true b a f) (same_stamp-refl a))))
    (λ f. rw (e, f) refl))
