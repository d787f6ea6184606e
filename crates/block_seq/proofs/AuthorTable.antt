-- A table of authors that has none twice.
use Rattle.std.proofs.Common.{◌≡◌, Bool, false, List, [], ◌∷◌, ◌++◌}
use Rattle.std.specs.List.{AllByRecursion, IsDistinct}
use Rattle.pad_model.proofs.Each.{each-append}

-- one more that is like none of the others
pub distinct_push : {A : Type 0} (alike : A → A → Bool) (xs : List A) (x : A) → IsDistinct alike xs →
    AllByRecursion (λ y. alike y x ≡ false) xs → IsDistinct alike (xs ++ x ∷ [])
unfolding IsDistinct
distinct_push alike [] x d new = (tt, tt)
distinct_push alike (y ∷ xs) x d new =
    (each-append (λ z. alike y z ≡ false) xs (x ∷ []) d.0 (new.0, tt), distinct_push alike xs x d.1 new.1)

-- an empty table has none twice
pub distinct_none : {A : Type 0} (alike : A → A → Bool) (xs : List A) → xs ≡ [] → IsDistinct alike xs
unfolding IsDistinct
distinct_none alike [] e = tt
distinct_none alike (x ∷ xs) e = absurd (cc)
