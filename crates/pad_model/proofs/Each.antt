-- What holds of each item of a list, by recursion on the list.
use Rattle.std.proofs.Common.{◌≡◌, Bool, true, false, cond, ◌||◌, List, [], ◌∷◌, ◌++◌, filter, IsPermutation}
use Rattle.std.proofs.lemmas.List.Elements.{All-from_recursion, recursion_from_All}
use Rattle.std.proofs.lemmas.List.Sorted.{All-permutation}
use Rattle.std.specs.List.{AllByRecursion, list_any}
use Rattle.pad_model.proofs.Newer.{split}

pub each-append : {A : Type 0} (P : A → Type 0) (xs ys : List A) → AllByRecursion P xs → AllByRecursion P ys →
    AllByRecursion P (xs ++ ys)
each-append P [] ys h k = k
each-append P (x ∷ xs) ys h k = (h.0, each-append P xs ys h.1 k)

pub each-left : {A : Type 0} (P : A → Type 0) (xs ys : List A) → AllByRecursion P (xs ++ ys) → AllByRecursion P xs
each-left P [] ys h = tt
each-left P (x ∷ xs) ys h = (h.0, each-left P xs ys h.1)

pub each-right : {A : Type 0} (P : A → Type 0) (xs ys : List A) → AllByRecursion P (xs ++ ys) → AllByRecursion P ys
each-right P [] ys h = h
each-right P (x ∷ xs) ys h = each-right P xs ys h.1

pub each-imply : {A : Type 0} (P Q : A → Type 0) → ((x : A) → P x → Q x) → (xs : List A) → AllByRecursion P xs →
    AllByRecursion Q xs
each-imply P Q f [] h = tt
each-imply P Q f (x ∷ xs) h = (f x h.0, each-imply P Q f xs h.1)

pub each-both : {A : Type 0} (P Q R : A → Type 0) → ((x : A) → P x → Q x → R x) → (xs : List A) → AllByRecursion P xs →
    AllByRecursion Q xs → AllByRecursion R xs
each-both P Q R f [] h k = tt
each-both P Q R f (x ∷ xs) h k = (f x h.0 k.0, each-both P Q R f xs h.1 k.1)

pub each-permutation : {A : Type 0} (P : A → Type 0) (xs ys : List A) → IsPermutation xs ys → AllByRecursion P xs →
    AllByRecursion P ys
each-permutation P xs ys p h = recursion_from_All P ys (All-permutation P xs ys p (All-from_recursion P xs h))

-- no item passes a test exactly if none is found by it
pub each_fails : {A : Type 0} (t : A → Bool) (xs : List A) → list_any t xs ≡ false →
    AllByRecursion (λ x. t x ≡ false) xs
each_fails t [] e = tt
each_fails t (x ∷ xs) e = let parts = Rattle.std.proofs.lemmas.Bool.or_parts _ _ e in (parts.0, each_fails t xs parts.1)

pub none_found : {A : Type 0} (t : A → Bool) (xs : List A) → AllByRecursion (λ x. t x ≡ false) xs → list_any t xs
    ≡ false
none_found t [] h = Rattle.std.proofs.Common.refl
none_found t (x ∷ xs) h = Rattle.std.proofs.lemmas.Bool.or_from _ _ h.0 (none_found t xs h.1)

-- if some item passes the test, there is one that passes it and has what each item has
pub found_has : {A : Type 0} (t : A → Bool) (P : A → Type 0) (xs : List A) → list_any t xs ≡ true →
    AllByRecursion P xs → (x : A) × ((t x ≡ true) × P x)
found_has t P [] e h = absurd (Rattle.std.proofs.lemmas.Bool.false≢true e)
found_has t P (x ∷ xs) e h =
    split (t x) (λ yes. (x, (yes, h.0)))
    (λ no. found_has t P xs (Rattle.std.proofs.Common.subst (λ b. (b || list_any t xs) ≡ true) no e) h.1)
