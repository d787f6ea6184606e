-- The lines and the words of an accounts file.
use Rattle.std.proofs.Common.{◌≡◌, ℕ, zero, suc, ◌+◌, ◌<◌, Bool, true, false, ◌&&◌, List, [], ◌∷◌, ◌++◌, length}
use Rattle.std.proofs.Common.{take, drop, Option, None, Some, true≢false, refl, sym, ap, ◌∙◌, arith, eqb, ltb, leb}
use Rattle.std.specs.List.{list_all, position, position_or_len, slice_split, onto_first}
use Rattle.std.specs.Borrow.{Bor}
use Rattle.std.specs.Option.{is_some}
use Rattle.std.specs.Str.{IsAscii, IsUtf8, is_utf8}
use Rattle.std.specs.Str.Lines.{lines_of_parts, strip_carriage_return}
use Rattle.std.proofs.lemmas.Bool.{ltb-true, ltb-false, leb-true, eqb-true, ne_eqb, and_parts, and_from, and_left, and_right}
use Rattle.std.proofs.lemmas.Bool.{cond-true, cond-false}
use Rattle.std.proofs.lemmas.Option.{same_Some}
use Rattle.std.proofs.lemmas.List.Splits.{slice_split_first, slice_split_none}
use Rattle.std.proofs.lemmas.List.Sums.{fails_before_first}
use Rattle.std.proofs.lemmas.Str.{IsUtf8-from_ascii, is_utf8-from_IsUtf8}
use Rattle.pad_model.specs.Checked.{is_name, is_name_byte, is_within}
use Rattle.pad_model.proofs.Newer.{split}
use Rattle.sessions.specs.AccountsFile.{is_hash_digit, is_shown, is_word, words, joined, person_said, said_of_person}
use Rattle.sessions.specs.Said.{words_behind}

-- the first part of a list that is cut ends where the test first holds
pub split_found : (p : ℕ → Bool) (xs : List ℕ) (i : ℕ) → position p xs ≡ Some i → slice_split p xs ≡ take i xs
    ∷ slice_split p (drop (i + 1) xs)
split_found p xs i found =
    split (ltb (position_or_len p xs) (length xs))
    (λ t.
    let same : position_or_len p xs ≡ i = same_Some _ _ (sym (cond-true _ _ _ t) ∙ found) in
    slice_split_first p xs 0 (ltb-true _ _ t) ∙ ap (λ k. take k xs ∷ slice_split p (drop (k + 1) xs)) same)
    (λ f. let none = sym (cond-false _ _ _ f) ∙ found in cc)

pub split_absent : (p : ℕ → Bool) (xs : List ℕ) → position p xs ≡ None → slice_split p xs ≡ xs ∷ []
split_absent p xs absent =
    split (ltb (position_or_len p xs) (length xs))
    (λ t. let some = sym (cond-true _ _ _ t) ∙ absent in cc)
    (λ f. slice_split_none p xs (λ k d lt. fails_before_first p xs k d (omega (arith, ltb-false _ _ f))))

-- a part that is not the last is a line
pub line_before : (p : ℕ → Bool) (x ys : List ℕ) → lines_of_parts (x ∷ slice_split p ys) ≡ strip_carriage_return x
    ∷ lines_of_parts (slice_split p ys)
line_before p x [] = refl
line_before p x (y ∷ ys) = split (p y) (λ t. rw t refl) (λ f. rw f (first (slice_split p ys)))
  where
    first : (parts : List (List ℕ)) → lines_of_parts (x ∷ onto_first y parts) ≡ strip_carriage_return x
        ∷ lines_of_parts (onto_first y parts)
    first [] = refl
    first (part ∷ parts) = refl

-- the last part is a line if it is not empty
pub last_line : (x : List ℕ) → 0 < length x → lines_of_parts (x ∷ []) ≡ x ∷ []
last_line x lt = cond-false _ _ _ (ne_eqb (length x) 0 (λ e. omega (arith, e)))

-- shown bytes are text
shown_is_ascii : (w : List ℕ) → list_all is_shown w ≡ true → IsAscii w
shown_is_ascii [] h i = omega arith
shown_is_ascii (b ∷ bs) h zero = let parts = and_parts (leb 33 b) (leb b 126)
    (and_parts (is_shown b) (list_all is_shown bs) h).0 in omega (arith, leb-true b 126 parts.1)
shown_is_ascii (b ∷ bs) h (suc i) = shown_is_ascii bs (and_parts (is_shown b) (list_all is_shown bs) h).1 i

pub word_is_text : (most : ℕ) (w : List ℕ) → is_word most w ≡ true → IsUtf8 w
word_is_text most w h = IsUtf8-from_ascii w
    (shown_is_ascii w (and_parts (is_within (length w) most) (list_all is_shown w) h).1)

-- a hash is text
hash_digit_is_shown : (b : ℕ) → is_hash_digit b ≡ true → is_shown b ≡ true
hash_digit_is_shown b h = grind arith

hash_is_shown : (w : List ℕ) → list_all is_hash_digit w ≡ true → list_all is_shown w ≡ true
hash_is_shown [] h = refl
hash_is_shown (b ∷ bs) h =
    let parts = and_parts (is_hash_digit b) (list_all is_hash_digit bs) h in
    and_from _ _ (hash_digit_is_shown b parts.0) (hash_is_shown bs parts.1)

pub hash_is_text : (w : List ℕ) → list_all is_hash_digit w ≡ true → is_utf8 w ≡ true
hash_is_text w h = is_utf8-from_IsUtf8 w (IsUtf8-from_ascii w (shown_is_ascii w (hash_is_shown w h)))

-- a name is a word
byte_is_shown : (b : ℕ) → is_name_byte b ≡ true → is_shown b ≡ true
byte_is_shown b h = grind arith

name_is_shown : (w : List ℕ) → list_all is_name_byte w ≡ true → list_all is_shown w ≡ true
name_is_shown [] h = refl
name_is_shown (b ∷ bs) h =
    let parts = and_parts (is_name_byte b) (list_all is_name_byte bs) h in
    and_from _ _ (byte_is_shown b parts.0) (name_is_shown bs parts.1)

pub name_is_word : (w : List ℕ) → is_word 32 w ≡ false → is_name w ≡ false
name_is_word w h =
    let within = is_within (length w) 32 in
    split (list_all is_name_byte w)
    (λ t. and_left within _ (by_other within _ h (name_is_shown w t)))
    (λ f. and_right within _ f)
  where
    by_other : (a b : Bool) → (a && b) ≡ false → b ≡ true → a ≡ false
    by_other false b h t = refl
    by_other true b h t = absurd (true≢false (sym t ∙ h))

-- what holds for a word followed by any words holds for the words of any text
of_words : (P : List (List ℕ) → Type 0) → ((word : List ℕ) (rest : List (List ℕ)) → P (word ∷ rest)) → (text : List ℕ)
    → P (words text)
of_words P each [] = each [] []
of_words P each (y ∷ ys) = split (eqb y 32) (λ t. rw t (each [] (words ys))) (λ f. rw f (onto (words ys)))
  where
    onto : (parts : List (List ℕ)) → P (onto_first y parts)
    onto [] = each (y ∷ []) []
    onto (part ∷ parts) = each (y ∷ part) parts

-- and for the words after a word that is not the last
pub of_more_words : (P : List (List ℕ) → Type 0) → ((word : List ℕ) (rest : List (List ℕ)) → P (word ∷ rest))
    → (rest : Option (Bor (List ℕ))) → is_some rest ≡ true → P (words_behind rest)
of_more_words P each None some = absurd (true≢false (sym some))
of_more_words P each (Some text) some = of_words P each text.now

-- the words after a place, if there are any
pub words_at : (rest : Option (Bor (List ℕ))) (text : Bor (List ℕ)) → rest ≡ Some text → words_behind rest ≡ words text.now
words_at rest text is = ap words_behind is

-- words that are joined are the text that they were cut from
joined_behind : (first text : List ℕ) → joined (first ∷ words text) ≡ first ++ 32 ∷ joined (words text)
joined_behind first text = of_words (λ parts. joined (first ∷ parts) ≡ first ++ 32 ∷ joined parts) (λ word rest. refl) text

joined_onto : (b : ℕ) (text : List ℕ) → joined (onto_first b (words text)) ≡ b ∷ joined (words text)
joined_onto b text = of_words (λ parts. joined (onto_first b parts) ≡ b ∷ joined parts) cases text
  where
    cases : (word : List ℕ) (rest : List (List ℕ)) → joined (onto_first b (word ∷ rest)) ≡ b ∷ joined (word ∷ rest)
    cases word [] = refl
    cases word (next ∷ rest) = refl

pub joined_words : (text : List ℕ) → joined (words text) ≡ text
joined_words [] = refl
joined_words (b ∷ bs) =
    split (eqb b 32)
    (λ t.
    ap joined (cond-true _ _ _ t) ∙ joined_behind [] bs
    ∙ ap (λ (rest : List ℕ). 32 ∷ rest) (joined_words bs) ∙ ap (λ c. c ∷ bs) (sym (eqb-true b 32 t)))
    (λ f. ap joined (cond-false _ _ _ f) ∙ joined_onto b bs ∙ ap (λ (rest : List ℕ). b ∷ rest) (joined_words bs))

-- what follows a person's ID is its display name
pub person_words : (name id text : List ℕ) → person_said (name ∷ id ∷ words text) ≡ said_of_person name id text
person_words name id text =
    of_words (λ parts. person_said (name ∷ id ∷ parts) ≡ said_of_person name id (joined parts)) (λ word rest. refl) text
    ∙ ap (said_of_person name id) (joined_words text)
