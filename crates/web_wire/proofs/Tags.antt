-- A text without the white space at either end is the one that std gives.
use Rattle.std.proofs.Common.{◌≡◌, ℕ, zero, suc, ◌<◌, ◌≤◌, Bool, true, false, cond, ◌&&◌, List, [], ◌∷◌, length, take, drop, refl, sym, ap, ◌∙◌, subst, arith, slice_index}
use Rattle.std.specs.Char.{is_ascii_whitespace}
use Rattle.std.specs.Str.{IsAsciiWhitespaceBelow, IsAsciiWhitespaceFrom, IsTrimAscii}
use Rattle.std.proofs.lemmas.List.{length-take}
use Rattle.web_wire.specs.Tags.{is_empty, trimmed, without_lead, without_trail}

-- what is dropped from the front is white space, and what is left does not begin with any
lead_is : (s : List ℕ) (m : ℕ) → IsAsciiWhitespaceBelow s m → (m < length s → is_ascii_whitespace (slice_index s m) ≡ false)
    → without_lead s ≡ drop m s
lead_is [] zero below here = refl
lead_is [] (suc m) below here = refl
lead_is (b ∷ bs) zero below here = let other : is_ascii_whitespace b ≡ false = here (omega arith) in rw other refl
lead_is (b ∷ bs) (suc m) below here =
    let white : is_ascii_whitespace b ≡ true = below 0 (omega arith) in
    rw white (lead_is bs m (λ i lt. below (suc i) (omega arith)) (λ lt. here (omega arith)))

-- what is dropped from the end is white space, and what is left does not end with any
trail_is : (s : List ℕ) (n : ℕ) → n ≤ length s → IsAsciiWhitespaceFrom s n
    → ((k : ℕ) → n ≡ suc k → is_ascii_whitespace (slice_index s k) ≡ false) → without_trail s ≡ take n s
trail_is [] zero within from last = refl
trail_is [] (suc n) within from last = absurd (omega arith)
trail_is (b ∷ bs) zero within from last =
    let white : is_ascii_whitespace b ≡ true = from 0 (omega arith) (omega arith) in
    let none : without_trail bs ≡ [] = trail_is bs zero (omega arith) (λ i le lt. from (suc i) (omega arith) (omega arith)) (λ k is. absurd (omega arith)) in
    rw (white, none) refl
trail_is (b ∷ bs) (suc zero) within from last =
    let other : is_ascii_whitespace b ≡ false = last 0 refl in
    let none : without_trail bs ≡ [] = trail_is bs zero (omega arith) (λ i le lt. from (suc i) (omega arith) (omega arith)) (λ k is. absurd (omega arith)) in
    rw (other, none) refl
trail_is (b ∷ []) (suc (suc n)) within from last = absurd (omega arith)
trail_is (b ∷ c ∷ bs) (suc (suc n)) within from last =
    let more : without_trail (c ∷ bs) ≡ c ∷ take n bs = trail_is (c ∷ bs) (suc n) (omega arith) (λ i le lt. from (suc i) (omega arith) (omega arith)) (λ k is. last (suc k) (ap suc is)) in
    some (is_ascii_whitespace b) (without_trail (c ∷ bs)) more
  where
    either : (white : Bool) → cond (white && false) [] (b ∷ c ∷ take n bs) ≡ b ∷ c ∷ take n bs
    either true = refl
    either false = refl

    some : (white : Bool) (rest : List ℕ) → rest ≡ c ∷ take n bs → cond (white && is_empty rest) [] (b ∷ rest) ≡ b ∷ c ∷ take n bs
    some white rest is = rw is (either white)

pub trimmed_is : (s r : List ℕ) → IsTrimAscii s r → r ≡ trimmed s
trimmed_is s r is =
    let m = is.0 in
    let lead = lead_is s m is.2 is.3 in
    let within : length r ≤ length (drop m s) = omega (arith, ap length is.1, length-take (length r) (drop m s)) in
    let last : (k : ℕ) → length r ≡ suc k → is_ascii_whitespace (slice_index (drop m s) k) ≡ false =
    λ k e. subst (λ i. is_ascii_whitespace (slice_index (drop m s) i) ≡ false) (omega (arith, e)) (is.5 (omega (arith, e))) in
    is.1 ∙ sym (trail_is (drop m s) (length r) within is.4 last) ∙ sym (ap without_trail lead)
