-- Where no two items have one stamp, all stamps of a span are there just where as many items are in the span as it is
-- long.
use Rattle.std.proofs.Common.{◌≡◌, ℕ, zero, suc, ◌+◌, ◌≤◌, Bool, true, false, ◌&&◌, ◌||◌, cond, eqb, leb, ltb, List, []}
use Rattle.std.proofs.Common.{◌∷◌, length, filter, count_by, refl, sym, ap, ◌∙◌, subst, arith, ne_eqb}
use Rattle.std.proofs.lemmas.Bool.{and_right, lt-leb}
use Rattle.std.proofs.lemmas.List.Sums.{length-filter}
use Rattle.std.proofs.Math.Dec.{eqb-suc-suc}
use Rattle.std.specs.List.{AllByRecursion, IsDistinct, list_all}
use Rattle.pad_model.specs.Stamp.{Stamp, same_stamp}
use Rattle.pad_model.specs.Character.{Character, next}
use Rattle.pad_model.specs.Legal.{has_stamp, same_item}
use Rattle.pad_model.specs.Operation.{stamps_from}
use Rattle.pad_model.specs.Visible.{is_erased}
use Rattle.pad_model.proofs.Newer.{split, same_stamp-true, same_stamp-sym}
use Rattle.pad_model.proofs.Rising.{IsDistinct-parts}
use Rattle.pad_model.proofs.Tree.{filter_none}
use Rattle.pad_model.proofs.Erase.{in_span, is_erased-stamps_from}

-- how many items have a stamp: one where it is there, else none
count_of : {A : Type 0} (at : A → Character) (s : Stamp) (xs : List A) → IsDistinct (same_item at) xs →
    length (filter (λ x. same_stamp s (at x).stamp) xs) ≡ cond (has_stamp at xs s) 1 0
count_of at s [] d = refl
count_of at s (x ∷ xs) d =
    let parts = IsDistinct-parts at x xs d in
    split (same_stamp s (at x).stamp)
    (λ e. rw (e, same_stamp-sym (at x).stamp s, e)
    (ap (λ l. suc (length l)) (filter_none (λ y. same_stamp s (at y).stamp) xs
    (subst (λ (k : Stamp). AllByRecursion (λ y. same_stamp k (at y).stamp ≡ false) xs)
    (sym (same_stamp-true s (at x).stamp e)) parts.0))))
    (λ e. rw (e, same_stamp-sym (at x).stamp s, e) (count_of at s xs parts.1))

-- items that pass one of two tests, where none passes both
count_either : {A : Type 0} (p q : A → Bool) → ((x : A) → p x ≡ true → q x ≡ false) → (xs : List A) →
    length (filter (λ x. p x || q x) xs) ≡ length (filter p xs) + length (filter q xs)
count_either p q h [] = refl
count_either p q h (x ∷ xs) =
    let rest = count_either p q h xs in
    split (p x)
    (λ e. rw (e, h x e) (omega (arith, rest)))
    (λ e. split (q x) (λ f. rw (e, f) (omega (arith, rest))) (λ f. rw (e, f) rest))

-- tests that say the same count the same
count_same : {A : Type 0} (p q : A → Bool) → ((x : A) → p x ≡ q x) → (xs : List A) → length (filter p xs)
    ≡ length (filter q xs)
count_same p q h [] = refl
count_same p q h (x ∷ xs) = split (q x) (λ e. rw (h x, e) (ap suc (count_same p q h xs)))
    (λ e. rw (h x, e) (count_same p q h xs))

-- what fails always counts nothing
count_none : {A : Type 0} (xs : List A) → length (filter (λ x. false) xs) ≡ 0
count_none [] = refl
count_none (x ∷ xs) = count_none xs

-- a stamp is not among those that follow it
behind : (first : Stamp) (n : ℕ) (s : Stamp) → same_stamp first s ≡ true → is_erased (stamps_from (next first) n) s
    ≡ false
behind first n s e =
    subst (λ (k : Stamp). is_erased (stamps_from (next first) n) k ≡ false) (same_stamp-true first s e)
    (is_erased-stamps_from (next first) n first
    ∙ and_right (eqb first.replica first.replica) (leb (first.counter + 1) first.counter
    && ltb first.counter (first.counter + 1 + n))
    (ap (λ b. b && ltb first.counter (first.counter + 1 + n)) (lt-leb (first.counter + 1) first.counter (omega arith))))

-- one more stamp, there or not, in front of n that are counted
one_more : (count rest n : ℕ) (here all : Bool) → count ≡ cond here 1 0 + rest → rest ≤ n → eqb rest n ≡ all →
    (count ≤ suc n) × (eqb count (suc n) ≡ (here && all))
one_more count rest n true all e l h =
    let more : count ≡ suc rest = omega (arith, e) in
    (omega (arith, more, l), ap (λ k. eqb k (suc n)) more ∙ eqb-suc-suc rest n ∙ h)
one_more count rest n false all e l h = (omega (arith, e, l), ne_eqb count (suc n) (λ f. omega (arith, e, f, l)))

-- how many items have one of n stamps that follow each other: n at most, and n just where all are there
counted : {A : Type 0} (at : A → Character) (xs : List A) → IsDistinct (same_item at) xs → (first : Stamp) (n : ℕ) →
    (length (filter (λ x. is_erased (stamps_from first n) (at x).stamp) xs) ≤ n)
    × (eqb (length (filter (λ x. is_erased (stamps_from first n) (at x).stamp) xs)) n
    ≡ list_all (λ s. has_stamp at xs s) (stamps_from first n))
counted at xs d first zero = let none = count_none xs in (omega (arith, none), rw none refl)
counted at xs d first (suc n) =
    let rest = counted at xs d (next first) n in
    one_more _ _ n (has_stamp at xs first) (list_all (λ s. has_stamp at xs s) (stamps_from (next first) n))
    (count_either (λ x. same_stamp first (at x).stamp) (λ x. is_erased (stamps_from (next first) n) (at x).stamp)
    (λ x. behind first n (at x).stamp) xs
    ∙ ap (λ k. k + length (filter (λ x. is_erased (stamps_from (next first) n) (at x).stamp) xs))
    (count_of at first xs d))
    rest.0 rest.1

-- all stamps of a span are there just where as many items are in it as it is long
pub all_there : {A : Type 0} (at : A → Character) (xs : List A) → IsDistinct (same_item at) xs →
    (first : Stamp) (n : ℕ) →
    eqb (count_by (λ x. in_span first n (at x).stamp) xs) n ≡ list_all (λ s. has_stamp at xs s) (stamps_from first n)
all_there at xs d first n =
    ap (λ k. eqb k n)
    (sym (length-filter (λ x. in_span first n (at x).stamp) xs)
    ∙ count_same (λ x. in_span first n (at x).stamp) (λ x. is_erased (stamps_from first n) (at x).stamp)
    (λ x. sym (is_erased-stamps_from first n (at x).stamp)) xs)
    ∙ (counted at xs d first n).1
