-- The first line of a text.
use Rattle.std.proofs.Common.{◌≡◌, ℕ, suc, ◌+◌, ◌<◌, ◌≤◌, Bool, true, false, not, cond, List, [], ◌∷◌, length}
use Rattle.std.proofs.Common.{take, drop, None, Some, refl, sym, ap, ◌∙◌, arith, eqb, ltb, ltb-true}
use Rattle.std.specs.List.{onto_first, position, position_or_len}
use Rattle.std.proofs.lemmas.Bool.{ltb-false, cond-true, cond-false}
use Rattle.std.proofs.lemmas.Option.{same_Some}
use Rattle.pad_model.proofs.Newer.{split}
use Rattle.pad_accounts.specs.Lines.{raw_lines}

-- a text is its first line and the lines after that
first_at : (n : ℕ) (x : ℕ) (xs : List ℕ) (is : Bool) → cond (not is) (1 + n) 0 < suc (length xs)
    → (n < length xs → raw_lines xs ≡ take (n + 1) xs ∷ raw_lines (drop (n + 1) xs))
    → cond is ((x ∷ []) ∷ raw_lines xs) (onto_first x (raw_lines xs))
    ≡ take (cond (not is) (1 + n) 0 + 1) (x ∷ xs) ∷ raw_lines (drop (cond (not is) (1 + n) 0 + 1) (x ∷ xs))
first_at n x xs true lt rest = refl
first_at n x xs false lt rest =
    let on : 1 + n + 1 ≡ suc (n + 1) = omega arith in
    rw on (ap (onto_first x) (rest (omega (arith, lt))))

line_at : (xs : List ℕ) → position_or_len (λ b. eqb b 10) xs < length xs → raw_lines xs
    ≡ take (position_or_len (λ b. eqb b 10) xs + 1) xs ∷ raw_lines (drop (position_or_len (λ b. eqb b 10) xs + 1) xs)
line_at [] lt = absurd (omega arith)
line_at (x ∷ xs) lt = first_at (position_or_len (λ b. eqb b 10) xs) x xs (eqb x 10) lt (line_at xs)

-- a text without a line feed is one line
no_more : (x y : ℕ) (ys : List ℕ) (is : Bool) → suc (length (y ∷ ys)) ≤ cond (not is) (1 + position_or_len (λ b. eqb b 10) (y ∷ ys)) 0
    → (length (y ∷ ys) ≤ position_or_len (λ b. eqb b 10) (y ∷ ys) → raw_lines (y ∷ ys) ≡ (y ∷ ys) ∷ [])
    → cond is ((x ∷ []) ∷ raw_lines (y ∷ ys)) (onto_first x (raw_lines (y ∷ ys))) ≡ (x ∷ y ∷ ys) ∷ []
no_more x y ys true le rest = absurd (omega arith)
no_more x y ys false le rest = ap (onto_first x) (rest (omega (arith, le)))

one_line : (xs : List ℕ) → 0 < length xs → length xs ≤ position_or_len (λ b. eqb b 10) xs → raw_lines xs ≡ xs ∷ []
one_line [] lt le = absurd (omega arith)
one_line (x ∷ []) lt le = split (eqb x 10) (λ t. rw t refl) (λ f. rw f refl)
one_line (x ∷ y ∷ ys) lt le = no_more x y ys (eqb x 10) le (λ more. one_line (y ∷ ys) (omega arith) more)

-- the first line ends at the first line feed
pub line_found : (xs : List ℕ) (i : ℕ) → position (λ b. eqb b 10) xs ≡ Some i → raw_lines xs ≡ take (i + 1) xs
    ∷ raw_lines (drop (i + 1) xs)
line_found xs i found =
    split (ltb (position_or_len (λ b. eqb b 10) xs) (length xs))
    (λ t.
    let same : position_or_len (λ b. eqb b 10) xs ≡ i = same_Some _ _ (sym (cond-true _ _ _ t) ∙ found) in
    line_at xs (ltb-true _ _ t) ∙ ap (λ k. take (k + 1) xs ∷ raw_lines (drop (k + 1) xs)) same)
    (λ f. let none = sym (cond-false _ _ _ f) ∙ found in cc)

-- or it is the whole text
pub line_absent : (xs : List ℕ) → 0 < length xs → position (λ b. eqb b 10) xs ≡ None → raw_lines xs ≡ xs ∷ []
line_absent xs some absent =
    split (ltb (position_or_len (λ b. eqb b 10) xs) (length xs))
    (λ t. let found = sym (cond-true _ _ _ t) ∙ absent in cc)
    (λ f. one_line xs some (omega (arith, ltb-false _ _ f)))
