-- A number is read back from its bytes.
use Rattle.std.proofs.Common.{◌≡◌, ℕ, zero, suc, ◌+◌, ◌/◌, ◌%◌, ◌^◌, ◌≤◌, ◌<◌, List, [], ◌∷◌, ◌++◌, refl, ap}
use Rattle.std.proofs.Common.{arith, ltb}
use Rattle.std.proofs.lemmas.Bool.{ltb-false, lt-ltb, le-ltb}
use Rattle.std.proofs.lemmas.Nat.{div-add-mod'}
use Rattle.pad_model.proofs.Newer.{split}
use Rattle.op_log.specs.Number.{bytes_within, number_bytes, number_at, after_number}

-- a number that is not small is above its higher part
pub higher_below : (n : ℕ) → 128 ≤ n → n / 128 < n
higher_below n le = omega (arith, div-add-mod' n 128)

-- how many bytes are allowed does not matter where they are enough
within_same : (f g n : ℕ) → n ≤ f → n ≤ g → bytes_within f n ≡ bytes_within g n
within_same zero zero n le le' = refl
within_same zero (suc g) n le le' = rw (lt-ltb n 128 (omega arith)) refl
within_same (suc f) zero n le le' = rw (lt-ltb n 128 (omega arith)) refl
within_same (suc f) (suc g) n le le' =
    split (ltb n 128)
    (λ small. rw small refl)
    (λ large. let below = higher_below n (ltb-false n 128 large) in
    rw large (ap (λ (bytes : List ℕ). (n % 128 + 128) ∷ bytes)
    (within_same f g (n / 128) (omega arith) (omega arith))))

-- a small number has one byte
pub number_small : (n : ℕ) → n < 128 → number_bytes n ≡ n ∷ []
unfolding number_bytes
number_small zero lt = refl
number_small (suc n) lt = rw (lt-ltb (suc n) 128 lt) refl

-- the first byte of another, and those of its higher part
pub number_large : (n : ℕ) → 128 ≤ n → number_bytes n ≡ (n % 128 + 128) ∷ number_bytes (n / 128)
unfolding number_bytes
number_large zero le = absurd (omega arith)
number_large (suc n) le =
    let below = higher_below (suc n) le in
    rw (le-ltb (suc n) 128 le) (ap (λ (bytes : List ℕ). (suc n % 128 + 128) ∷ bytes)
    (within_same n (suc n / 128) (suc n / 128) (omega arith) (omega arith)))

-- the same of a number that is read
at_within : (f n : ℕ) (rest : List ℕ) → n ≤ f → n < 2 ^ 64 → number_at (bytes_within f n ++ rest) ≡ n
at_within zero n rest le lt = rw (lt-ltb n 128 (omega arith)) refl
at_within (suc f) n rest le lt =
    split (ltb n 128)
    (λ small. rw (small, small) refl)
    (λ large. let below = higher_below n (ltb-false n 128 large) in
    let parts = div-add-mod' n 128 in
    rw (large, le-ltb (n % 128 + 128) 128 (omega arith), at_within f (n / 128) rest (omega arith) (omega arith))
    (omega (arith, parts)))

after_within : (f n : ℕ) (rest : List ℕ) → n ≤ f → after_number (bytes_within f n ++ rest) ≡ rest
after_within zero n rest le = rw (lt-ltb n 128 (omega arith)) refl
after_within (suc f) n rest le =
    split (ltb n 128)
    (λ small. rw (small, small) refl)
    (λ large. let below = higher_below n (ltb-false n 128 large) in
    rw (large, le-ltb (n % 128 + 128) 128 (omega arith)) (after_within f (n / 128) rest (omega arith)))

-- the number at the start of its bytes and others
pub number_at_bytes : (n : ℕ) (rest : List ℕ) → n < 2 ^ 64 → number_at (number_bytes n ++ rest) ≡ n
unfolding number_bytes
number_at_bytes n rest lt = at_within n n rest (omega arith) lt

-- and what stands behind it
pub after_number_bytes : (n : ℕ) (rest : List ℕ) → after_number (number_bytes n ++ rest) ≡ rest
unfolding number_bytes
after_number_bytes n rest = after_within n n rest (omega arith)
