-- The order of names.
use Rattle.std.proofs.Common.{◌≡◌, ◌<◌, ◌⊎◌, inl, inr, true, false, arith, ltb-true}
use Rattle.std.proofs.lemmas.Bool.{or_cases, and_parts, eqb-true}
use Rattle.std.proofs.lemmas.Bool.Decides.{nat_tests}
use Rattle.pad_model.specs.Log.{precedes, same_name}
use Rattle.pad_model.specs.declared.op.OpName.{OpName}

-- the order is transitive
pub precedes-trans : (a b c : OpName) → precedes a b ≡ true → precedes b c ≡ true → precedes a c ≡ true
precedes-trans a b c p q = grind (arith, nat_tests)

-- no name comes before an equal one
pub precedes-same : (a b : OpName) → same_name a b ≡ true → precedes a b ≡ false
precedes-same a b e = grind (arith, nat_tests)

-- a name that comes before another is not equal to it
pub same-precedes : (a b : OpName) → precedes a b ≡ true → same_name a b ≡ false
same-precedes a b p = grind (arith, nat_tests)

pub same-follows : (a b : OpName) → precedes b a ≡ true → same_name a b ≡ false
same-follows a b p = grind (arith, nat_tests)

-- of two names that differ, one comes before the other
pub precedes-other : (a b : OpName) → precedes a b ≡ false → same_name a b ≡ false → precedes b a ≡ true
precedes-other a b p q = grind (arith, nat_tests)

-- what follows a name that is no smaller than another is not that one
pub follows : (first later name : OpName) → precedes first name ≡ false → precedes first later ≡ true →
    same_name later name ≡ false
follows first later name stops h = grind (arith, nat_tests)

-- a name that comes after another comes after each equal one
pub precedes-alike : (a b c : OpName) → same_name a b ≡ true → precedes a c ≡ true → precedes b c ≡ true
precedes-alike a b c e p = grind (arith, nat_tests)

-- what it means that a name comes before another
pub precedes-cases : (a b : OpName) → precedes a b ≡ true → (a.origin < b.origin)
    ⊎ ((a.origin ≡ b.origin) × (a.number < b.number))
precedes-cases a b e =
    elim (or_cases _ _ e) [
      | inl p ↦ inl (ltb-true _ _ p)
      | inr q ↦ let parts = and_parts _ _ q in inr (eqb-true _ _ parts.0, ltb-true _ _ parts.1)
    ]
