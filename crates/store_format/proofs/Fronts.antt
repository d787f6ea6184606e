-- The whole lines of a prefix of a file are those of its first texts.
use Rattle.std.proofs.Common.{◌≡◌, ◌⊎◌, inl, inr, ℕ, zero, suc, ◌+◌, ◌-◌, ◌*◌, ◌/◌, ◌%◌, ◌≤◌, ◌<◌, ◌≢◌, nat_le, eqb}
use Rattle.std.proofs.Common.{eq-eqb, not, ◌&&◌, Bool, true, false, true≢false, List, [], ◌∷◌, ◌++◌, length, take, drop}
use Rattle.std.proofs.Common.{codes, slice_index, bytes_eq, Some, refl, sym, ap, ◌∙◌, arith, append_assoc}
use Rattle.std.specs.List.{AllByRecursion}
use Rattle.std.proofs.lemmas.Bool.{cond-true, cond-false, le-ltb, ne_eqb}
use Rattle.std.proofs.lemmas.Bool.Decides.{leb_tells}
use Rattle.std.proofs.lemmas.List.{length-append, take-append-le}
use Rattle.std.proofs.lemmas.Slice.Eq.{bytes_eq-Decides}
use Rattle.std.proofs.Math.Seq.{take-append-add, take-append_seam, take-nil}
use Rattle.std.specs.Int.{to_be_bytes, w32}
use Rattle.hex.specs.Hex.{encode_with, lower_digits}
use Rattle.hex.proofs.HexLemmas.{length-encode_with}
use Rattle.sha2.specs.Sha256.{sha256, digest_bytes}
use Rattle.store_format.specs.Laws.{IsLine}
use Rattle.store_format.specs.Lines.{bytes_of, line_text, lines_behind, sum_after, text_behind, whole_lines, with_byte}

line_append : (xs ys : List ℕ) → IsLine xs → IsLine ys → IsLine (xs ++ ys)
line_append [] ys hx hy = hy
line_append (x ∷ xs) ys (ne, hx) hy = (ne, line_append xs ys hx hy)

-- a whole line in front
pub whole_first : (line rest : List ℕ) → IsLine line → whole_lines (line ++ 10 ∷ rest) ≡ line ∷ whole_lines rest
whole_first [] rest h = refl
whole_first (b ∷ line) rest (ne, h) = rw (ne_eqb b 10 ne) (ap (with_byte b) (whole_first line rest h))

-- a part of a line is not a whole line
none_whole : (line : List ℕ) (n : ℕ) → IsLine line → whole_lines (take n line) ≡ []
none_whole [] n h = ap whole_lines (take-nil n)
none_whole (b ∷ line) zero h = refl
none_whole (b ∷ line) (suc n) (ne, h) = rw (ne_eqb b 10 ne) (ap (with_byte b) (none_whole line n h))

-- the lines that some counts of texts give
abbrev Fronted : List ℕ → List (List ℕ) → ℕ → Type 0
Fronted before texts left =
    (count : ℕ) × (whole_lines (take left (bytes_of (lines_behind before texts)))
    ≡ lines_behind before (take count texts))
    × ((whole : ℕ) → whole ≤ length texts → length (bytes_of (lines_behind before (take whole texts))) ≤ left →
    whole ≤ count)

-- whether a text has no line feed
abbrev is_plain : List ℕ → Bool
is_plain [] = true
is_plain (b ∷ bs) = not (eqb b 10) && is_plain bs

both : (a b : Bool) → (a && b) ≡ true → (a ≡ true) × (b ≡ true)
both true b e = (refl, e)
both false b e = absurd (true≢false (sym e))

plain_line : (bs : List ℕ) → is_plain bs ≡ true → IsLine bs
plain_line [] e = tt
plain_line (b ∷ bs) e = at (both (not (eqb b 10)) (is_plain bs) e) (plain_line bs)
  where
    at : (not (eqb b 10) ≡ true) × (is_plain bs ≡ true) → (is_plain bs ≡ true → IsLine bs) → IsLine (b ∷ bs)
    at (first, rest) more = (λ is. true≢false (sym first ∙ ap not (eq-eqb b 10 is)), more rest)

entry_is_no_feed : (t : List ℕ) (i : ℕ) → IsLine t → slice_index t i ≢ 10
entry_is_no_feed [] i h = λ e. cc
entry_is_no_feed (x ∷ t) zero (ne, h) = ne
entry_is_no_feed (x ∷ t) (suc i) (ne, h) = entry_is_no_feed t i h

encoded_line : (t bytes : List ℕ) → IsLine t → IsLine (encode_with t bytes)
unfolding encode_with
encoded_line t [] h = tt
encoded_line t (b ∷ bytes) h = (entry_is_no_feed t (b / 16) h, (entry_is_no_feed t (b % 16) h, encoded_line t bytes h))

sum_line : (before text : List ℕ) → IsLine (sum_after before text)
sum_line before text = encoded_line lower_digits (sha256 (before ++ text)) (plain_line lower_digits refl)

pub text_line : (before text : List ℕ) → IsLine text → IsLine (line_text before text)
text_line before text h =
    line_append (((codes "[" ++ text) ++ codes ",\"") ++ sum_after before text) (codes "\"]")
    (line_append ((codes "[" ++ text) ++ codes ",\"") (sum_after before text)
    (line_append (codes "[" ++ text) (codes ",\"") (line_append (codes "[") text (plain_line (codes "[") refl) h)
    (plain_line (codes ",\"") refl)) (sum_line before text)) (plain_line (codes "\"]") refl)

pub front : (before : List ℕ) (texts : List (List ℕ)) (left : ℕ) → AllByRecursion IsLine texts →
    Fronted before texts left
front before [] left h = (0, ap whole_lines (take-nil left), λ whole few short. few)
front before (text ∷ texts) left (first, rest) = at (leb_tells left (length line))
    (λ n. front (sum_after before text) texts n rest)
  where
    line : List ℕ
    line = line_text before text

    more : List ℕ
    more = bytes_of (lines_behind (sum_after before text) texts)

    at : ((nat_le left (length line) ≡ true) × (left ≤ length line))
        ⊎ ((nat_le left (length line) ≡ false) × (length line < left)) →
        ((n : ℕ) → Fronted (sum_after before text) texts n) → Fronted before (text ∷ texts) left
    at (inl (_, low)) next = (
      0,
      ap whole_lines (take-append-le left line (10 ∷ more) low)
          ∙ none_whole line left (text_line before text first),
      least,
    )
      where
        least : (whole : ℕ) → whole ≤ length (text ∷ texts) →
            length (bytes_of (lines_behind before (take whole (text ∷ texts)))) ≤ left → whole ≤ 0
        least zero few short = omega arith
        least (suc whole) few short = absurd
            (too_long (length-append line (10 ∷ bytes_of (lines_behind (sum_after before text) (take whole texts))))
            short)
          where
            too_long : length (line ++ 10 ∷ bytes_of (lines_behind (sum_after before text) (take whole texts)))
                ≡ length line + suc (length (bytes_of (lines_behind (sum_after before text) (take whole texts)))) →
                length (line ++ 10 ∷ bytes_of (lines_behind (sum_after before text) (take whole texts))) ≤ left → ⊥
            too_long all short = omega arith
    at (inr (_, high)) next = past (left - length line - 1) (omega arith)
      where
        past : (n : ℕ) → left ≡ length line + suc n → Fronted before (text ∷ texts) left
        past n is = behind (next n)
          where
            behind : Fronted (sum_after before text) texts n → Fronted before (text ∷ texts) left
            behind (count, lines, least) = (
              suc count,
              ap (λ k. whole_lines (take k (line ++ 10 ∷ more))) is
                  ∙ (ap whole_lines (take-append-add line (10 ∷ more) (suc n))
                  ∙ (whole_first line (take n more) (text_line before text first) ∙ ap (λ ls. line ∷ ls) lines)),
              most,
            )
              where
                most : (whole : ℕ) → whole ≤ length (text ∷ texts) →
                    length (bytes_of (lines_behind before (take whole (text ∷ texts)))) ≤ left → whole ≤ suc count
                most zero few short = omega arith
                most (suc whole) few short = omega (
                  arith,
                  least whole (omega arith) (shorter
                      (length-append line (10 ∷ bytes_of (lines_behind (sum_after before text) (take whole texts))))
                      short),
                )
                  where
                    shorter : length (line ++ 10 ∷ bytes_of (lines_behind (sum_after before text) (take whole texts)))
                        ≡ length line + suc (length (bytes_of (lines_behind (sum_after before text)
                        (take whole texts)))) →
                        length (line ++ 10 ∷ bytes_of (lines_behind (sum_after before text) (take whole texts)))
                        ≤ left → length (bytes_of (lines_behind (sum_after before text) (take whole texts))) ≤ n
                    shorter all short = omega arith

digest_length : (h : List ℕ) (n : ℕ) → length (digest_bytes h n) ≡ 4 * n
unfolding digest_bytes
digest_length h zero = refl
digest_length h (suc n) = length-append (digest_bytes h n) (to_be_bytes w32 (slice_index h n))
    ∙ step (digest_length h n) refl
  where
    step : length (digest_bytes h n) ≡ 4 * n → length (to_be_bytes w32 (slice_index h n)) ≡ 4 →
        length (digest_bytes h n) + length (to_be_bytes w32 (slice_index h n)) ≡ 4 * suc n
    step a b = omega arith

pub sum_length : (before text : List ℕ) → length (sum_after before text) ≡ 64
unfolding sha256
sum_length before text = length-encode_with lower_digits (sha256 (before ++ text)) ∙ ap (λ n. 2 * n) (digest_length _ 8)

-- a line with its text undivided
line_parts : (before text : List ℕ) → line_text before text ≡ 91
    ∷ (text ++ (codes ",\"" ++ (sum_after before text ++ codes "\"]")))
line_parts before text =
    append_assoc ((codes "[" ++ text) ++ codes ",\"") (sum_after before text) (codes "\"]")
    ∙ (append_assoc (codes "[" ++ text) (codes ",\"") (sum_after before text ++ codes "\"]"))

line_length : (before text : List ℕ) → length (line_text before text) ≡ length text + 69
line_length before text = ap length (line_parts before text)
    ∙ at (length-append text (codes ",\"" ++ (sum_after before text ++ codes "\"]")))
    (length-append (sum_after before text) (codes "\"]")) (sum_length before text)
  where
    at : length (text ++ (codes ",\"" ++ (sum_after before text ++ codes "\"]"))) ≡ length text
        + suc (suc (length (sum_after before text ++ codes "\"]"))) →
        length (sum_after before text ++ codes "\"]") ≡ length (sum_after before text) + 2 →
        length (sum_after before text) ≡ 64 →
        suc (length (text ++ (codes ",\"" ++ (sum_after before text ++ codes "\"]")))) ≡ length text + 69
    at a b c = omega arith

text_there : (before text : List ℕ) → take (length (line_text before text) - 69) (drop 1 (line_text before text)) ≡ text
text_there before text =
    ap (λ line. take (length line - 69) (drop 1 line)) (line_parts before text)
    ∙ (ap (λ n. take n (text ++ (codes ",\"" ++ (sum_after before text ++ codes "\"]"))))
    (counted (ap length (sym (line_parts before text)) ∙ line_length before text))
    ∙ take-append_seam text (codes ",\"" ++ (sum_after before text ++ codes "\"]")))
  where
    counted : suc (length (text ++ (codes ",\"" ++ (sum_after before text ++ codes "\"]")))) ≡ length text + 69 →
        suc (length (text ++ (codes ",\"" ++ (sum_after before text ++ codes "\"]")))) - 69 ≡ length text
    counted e = omega arith

pub text_found : (before text : List ℕ) → text_behind before (line_text before text) ≡ Some text
text_found before text =
    cond-false _ _ _ (le-ltb (length (line_text before text)) 69 (omega (arith, line_length before text)))
    ∙ (cond-true _ _ _ (ap (λ t. bytes_eq (line_text before text) (line_text before t)) (text_there before text)
    ∙ (bytes_eq-Decides (line_text before text) (line_text before text)).1 refl) ∙ ap Some (text_there before text))
