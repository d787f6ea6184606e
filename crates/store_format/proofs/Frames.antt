-- The text within a line with the form of one.
use Rattle.std.proofs.Common.{◌≡◌, ℕ, ◌-◌, ◌≤◌, ◌&&◌, true, false, List, length, take, drop, bytes_eq, Some, None, sym, ap}
use Rattle.std.proofs.Common.{◌∙◌, nat_lt}
use Rattle.std.specs.List.{list_all}
use Rattle.std.proofs.lemmas.Bool.{cond-true, cond-false, le-ltb}
use Rattle.store_format.specs.Lines.{framed, if_framed, is_digit, text_within}

-- a line that is long enough is decided by its parts
within : (line : List ℕ) (n m : ℕ) → 69 ≤ length line → n ≡ length line - 69 → m ≡ 64 → text_within line
    ≡ if_framed line (take n (drop 1 line)) (take m (drop (length line - 66) line))
within line n m long is summed =
    cond-false (nat_lt (length line) 69) None _ (le-ltb (length line) 69 long)
    ∙ (ap (λ k. if_framed line (take k (drop 1 line)) (take 64 (drop (length line - 66) line))) (sym is)
    ∙ ap (λ k. if_framed line (take n (drop 1 line)) (take k (drop (length line - 66) line))) (sym summed))

pub within_found : (line items : List ℕ) (n m : ℕ) → 69 ≤ length line → n ≡ length line - 69 → m ≡ 64 →
    items ≡ framed (take n (drop 1 line)) (take m (drop (length line - 66) line)) →
    (bytes_eq line items && list_all is_digit (take m (drop (length line - 66) line))) ≡ true →
    text_within line ≡ Some (take n (drop 1 line))
within_found line items n m long is summed made so =
    within line n m long is summed
    ∙ cond-true (bytes_eq line (framed (take n (drop 1 line)) (take m (drop (length line - 66) line)))
    && list_all is_digit (take m (drop (length line - 66) line))) (Some (take n (drop 1 line))) None
    (ap (λ i. bytes_eq line i && list_all is_digit (take m (drop (length line - 66) line))) (sym made) ∙ so)

pub within_none : (line items : List ℕ) (n m : ℕ) → 69 ≤ length line → n ≡ length line - 69 → m ≡ 64 →
    items ≡ framed (take n (drop 1 line)) (take m (drop (length line - 66) line)) →
    (bytes_eq line items && list_all is_digit (take m (drop (length line - 66) line))) ≡ false →
    text_within line ≡ None
within_none line items n m long is summed made so =
    within line n m long is summed
    ∙ cond-false (bytes_eq line (framed (take n (drop 1 line)) (take m (drop (length line - 66) line)))
    && list_all is_digit (take m (drop (length line - 66) line))) (Some (take n (drop 1 line))) None
    (ap (λ i. bytes_eq line i && list_all is_digit (take m (drop (length line - 66) line))) (sym made) ∙ so)
