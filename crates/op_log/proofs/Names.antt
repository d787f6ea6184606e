-- A table of names that has none twice.
use Rattle.std.proofs.Common.{◌≡◌, ◌≤◌, Bool, true, false, List, [], ◌∷◌, ◌++◌, length, refl, arith, ltb}
use Rattle.std.proofs.lemmas.Bool.{ltb-false}
use Rattle.std.specs.Prelude.{None}
use Rattle.std.specs.List.{AllByRecursion, IsDistinct, position, position_or_len}
use Rattle.pad_model.proofs.Each.{each-append}

-- none passes a test that passes nowhere
fails_all : {A : Type 0} (p : A → Bool) (xs : List A) → length xs ≤ position_or_len p xs → AllByRecursion (λ x. p x ≡ false) xs
fails_all p [] is = tt
fails_all p (x ∷ xs) is = go (p x) refl (λ past. fails_all p xs past)
  where
    go : (b : Bool) → p x ≡ b → (length xs ≤ position_or_len p xs → AllByRecursion (λ x. p x ≡ false) xs)
        → (p x ≡ false) × AllByRecursion (λ x. p x ≡ false) xs
    go true e rest = let past = rw e at is in absurd (omega arith)
    go false e rest = let past = rw e at is in (e, rest (omega arith))

pub absent : {A : Type 0} (p : A → Bool) (xs : List A) → position p xs ≡ None → AllByRecursion (λ x. p x ≡ false) xs
absent p xs is = fails_all p xs (past (ltb (position_or_len p xs) (length xs)) refl)
  where
    past : (b : Bool) → ltb (position_or_len p xs) (length xs) ≡ b → length xs ≤ position_or_len p xs
    past true e = let some = rw e at is in absurd (cc some)
    past false e = ltb-false (position_or_len p xs) (length xs) e

-- one more that is like none of the others
pub distinct_push : {A : Type 0} (alike : A → A → Bool) (xs : List A) (x : A) → IsDistinct alike xs →
    AllByRecursion (λ y. alike y x ≡ false) xs → IsDistinct alike (xs ++ x ∷ [])
unfolding IsDistinct
distinct_push alike [] x d new = (tt, tt)
distinct_push alike (y ∷ xs) x d new =
    (each-append (λ z. alike y z ≡ false) xs (x ∷ []) d.0 (new.0, tt), distinct_push alike xs x d.1 new.1)

-- an empty table has none twice
pub distinct_none : {A : Type 0} (alike : A → A → Bool) (xs : List A) → xs ≡ [] → IsDistinct alike xs
unfolding IsDistinct
distinct_none alike [] e = tt
distinct_none alike (x ∷ xs) e = absurd (cc)
