-- The names that are made from secrets.
use Rattle.std.proofs.Common.{◌≡◌, ℕ, zero, suc, ◌+◌, ◌<◌, Bool, true, List, [], ◌∷◌, ◌++◌, length, map, codes, bytes_eq}
use Rattle.std.proofs.Common.{take, drop, replicate, None, Some, refl, sym, ap, ◌∙◌, arith, eqb, ltb}
use Rattle.std.specs.List.{before_first, list_all, position, position_or_len}
use Rattle.std.specs.Str.{IsAscii, IsUtf8}
use Rattle.std.proofs.lemmas.Bool.{ltb-false, and_parts, and_from, cond-true, cond-false}
use Rattle.std.proofs.lemmas.Option.{same_Some}
use Rattle.std.proofs.lemmas.List.{length-append, length-map, length-take-le, append-nil, drop_at, take-append-le, take_all, take_at}
use Rattle.std.proofs.lemmas.List.Folds.{list_all-append}
use Rattle.std.proofs.lemmas.Str.{IsUtf8-from_ascii}
use borrow.Rule.Slice.PartMut.{put_mid}
use Rattle.sha2.specs.Sha256.{sha256}
use Rattle.sha2.proofs.Facts256.{length-sha256}
use Rattle.pad_model.specs.Checked.{is_name, is_name_byte, is_within}
use Rattle.pad_model.proofs.Newer.{split}
use Rattle.guests.specs.Guests.{guest_name, letter, letters, link_name, secret_of}
use Rattle.guests.specs.Laws.{GuestLaw, LinkLaw, NamedLaw}

-- what stands before the first element that passes, by its place
pub found_before : (p : ℕ → Bool) (xs : List ℕ) (i : ℕ) → position p xs ≡ Some i → before_first p xs ≡ take i xs
found_before p xs i found =
    split (ltb (position_or_len p xs) (length xs))
    (λ t. ap (λ k. take k xs) (same_Some _ _ (sym (cond-true _ _ _ t) ∙ found)))
    (λ f. let none = sym (cond-false _ _ _ f) ∙ found in cc)

pub absent_before : (p : ℕ → Bool) (xs : List ℕ) → position p xs ≡ None → before_first p xs ≡ xs
absent_before p xs absent =
    split (ltb (position_or_len p xs) (length xs))
    (λ t. let some = sym (cond-true _ _ _ t) ∙ absent in cc)
    (λ f. take_all (position_or_len p xs) xs (ltb-false _ _ f))

-- a letter is a byte of names
letter_is_name : (b : ℕ) → is_name_byte (letter b) ≡ true
letter_is_name b = grind arith

letters_are_name : (xs : List ℕ) (n : ℕ) → list_all is_name_byte (take n (map letter xs)) ≡ true
letters_are_name [] zero = refl
letters_are_name [] (suc n) = refl
letters_are_name (x ∷ xs) zero = refl
letters_are_name (x ∷ xs) (suc n) = and_from _ _ (letter_is_name x) (letters_are_name xs n)

-- a name's bytes are ASCII
name_is_ascii : (w : List ℕ) → list_all is_name_byte w ≡ true → IsAscii w
name_is_ascii [] h i = omega arith
name_is_ascii (b ∷ bs) h zero = byte (and_parts (is_name_byte b) (list_all is_name_byte bs) h).0
  where
    byte : is_name_byte b ≡ true → b < 128
    byte h = grind arith
name_is_ascii (b ∷ bs) h (suc i) = name_is_ascii bs (and_parts (is_name_byte b) (list_all is_name_byte bs) h).1 i

pub name_is_text : (w : List ℕ) → is_name w ≡ true → IsUtf8 w
name_is_text w h = IsUtf8-from_ascii w (name_is_ascii w (and_parts (is_within (length w) 32) (list_all is_name_byte w) h).1)

pub length_letters : (text : List ℕ) → length (letters text) ≡ 13
unfolding letters
length_letters text = length-take-le 13 (map letter (sha256 text))
    (omega (arith, length-map (sha256 text) letter, length-sha256 text))

all_letters : (text : List ℕ) → list_all is_name_byte (letters text) ≡ true
unfolding letters
all_letters text = letters_are_name (sha256 text) 13

-- the name of a link
pub length_link : (secret : List ℕ) → length (link_name secret) ≡ 19
unfolding link_name
length_link secret = length-append (codes "guest-") (letters secret) ∙ ap (λ n. 6 + n) (length_letters secret)

all_link : (secret : List ℕ) → list_all is_name_byte (link_name secret) ≡ true
unfolding link_name
all_link secret = all_letters secret

pub link_named : (secret : List ℕ) → is_name (link_name secret) ≡ true
link_named secret =
    and_from _ _ (ap (λ n. is_within n 32) (length_link secret)) (all_link secret)

-- the name of a guest
pub length_guest : (token : List ℕ) → length (guest_name token) ≡ 32
unfolding guest_name
length_guest token =
    length-append (link_name (secret_of token)) (letters token)
    ∙ omega (arith, length_link (secret_of token), length_letters token)

all_guest : (token : List ℕ) → list_all is_name_byte (guest_name token) ≡ true
unfolding guest_name
all_guest token =
    list_all-append is_name_byte (link_name (secret_of token)) (letters token)
    ∙ and_from _ _ (all_link (secret_of token)) (all_letters token)

-- the letters of its own are written behind the name of the link
pub written_behind : (link own : List ℕ) → length link ≡ 19
    → put_mid 19 13 (link ++ replicate 13 0) own ≡ link ++ own
written_behind link own len =
    let zeros = replicate 13 0 in
    ap (λ (front : List ℕ). front ++ (own ++ drop 13 (drop 19 (link ++ zeros)))) (take_at link zeros 19 len)
    ∙ ap (λ (rest : List ℕ). link ++ (own ++ drop 13 rest)) (drop_at link zeros 19 len)
    ∙ ap (λ (rest : List ℕ). link ++ rest) (append-nil own)

pub guest_named : NamedLaw
guest_named token = and_from _ _ (ap (λ n. is_within n 32) (length_guest token)) (all_guest token)

begins : (token : List ℕ) → bytes_eq (take 6 (guest_name token)) (codes "guest-") ≡ true
unfolding guest_name link_name
begins token = refl

pub guest_is_guest : GuestLaw
guest_is_guest token = and_from _ _ (ap (λ n. eqb n 32) (length_guest token)) (begins token)

pub link_of_guest : LinkLaw
unfolding guest_name
link_of_guest token =
    take-append-le 19 (link_name (secret_of token)) (letters token) (omega (arith, length_link (secret_of token)))
    ∙ take_all 19 (link_name (secret_of token)) (omega (arith, length_link (secret_of token)))
