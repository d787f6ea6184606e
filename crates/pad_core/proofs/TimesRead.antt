-- Times at places that go on behind the last one.
use Rattle.std.proofs.Common.{◌≡◌, ℕ, zero, suc, ◌+◌, ◌≤◌, ◌<◌, List, [], ◌∷◌, length, Bool, true, false, refl, sym, ap, ◌∙◌, arith, slice_get, Some, None, ◌++◌, append_assoc, ltb}
use Rattle.std.proofs.lemmas.Bool.{ltb-true, ltb-false}
use Rattle.pad_core.specs.Reads.{places_from, times_at, with_time}

none_there : (times : List ℕ) (place : ℕ) → length times ≤ place → slice_get times place ≡ None
none_there [] place high = refl
none_there (t ∷ times) zero high = absurd (omega (arith, high))
none_there (t ∷ times) (suc place) high = none_there times place (omega (arith, high))

-- behind the last time there is none
pub none_behind : (times : List ℕ) (place step count : ℕ) → length times ≤ place →
    times_at times (places_from place step count) ≡ []
none_behind times place step zero high = refl
none_behind times place step (suc count) high =
    ap (λ o. with_time o (times_at times (places_from (place + step) step count))) (none_there times place high)
    ∙ none_behind times (place + step) step count (omega (arith, high))

-- it does not matter how far behind it a place is
pub nearer : (times : List ℕ) (place near step count : ℕ) → (place < length times → near ≡ place) →
    (length times ≤ place → length times ≤ near) →
    times_at times (places_from near step count) ≡ times_at times (places_from place step count)
nearer times place near step count same far = by_test (ltb place (length times)) refl
  where
    by_test : (b : Bool) → ltb place (length times) ≡ b →
        times_at times (places_from near step count) ≡ times_at times (places_from place step count)
    by_test true low = ap (λ p. times_at times (places_from p step count)) (same (ltb-true place (length times) low))
    by_test false high =
        let behind = ltb-false place (length times) high in
        none_behind times near step count (far behind) ∙ sym (none_behind times place step count behind)

-- a time was found, and it goes on at a place that is as good as the next one
pub with_found : (times list all : List ℕ) (time place near step count : ℕ) → slice_get times place ≡ Some time →
    list ++ times_at times (places_from place step (suc count)) ≡ all →
    times_at times (places_from near step count) ≡ times_at times (places_from (place + step) step count) →
    (list ++ time ∷ []) ++ times_at times (places_from near step count) ≡ all
with_found times list all time place near step count found is same =
    append_assoc list (time ∷ []) (times_at times (places_from near step count))
    ∙ ap (λ (ts : List ℕ). list ++ time ∷ ts) same
    ∙ ap (λ o. list ++ with_time o (times_at times (places_from (place + step) step count))) (sym found)
    ∙ is

-- no time was found
pub with_none : (times list all : List ℕ) (place near step count : ℕ) → slice_get times place ≡ None →
    list ++ times_at times (places_from place step (suc count)) ≡ all →
    times_at times (places_from near step count) ≡ times_at times (places_from (place + step) step count) →
    list ++ times_at times (places_from near step count) ≡ all
with_none times list all place near step count none is same =
    ap (λ (ts : List ℕ). list ++ ts) same
    ∙ ap (λ o. list ++ with_time o (times_at times (places_from (place + step) step count))) (sym none)
    ∙ is
