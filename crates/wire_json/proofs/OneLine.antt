-- Written text has no byte below 32, and so no line feed.
use Rattle.std.proofs.Common.{◌≡◌, ℕ, zero, suc, ◌+◌, ◌/◌, ◌%◌, ◌≤◌, ◌==◌, nat_lt, List, [], ◌∷◌, ◌++◌, Bool, true}
use Rattle.std.proofs.Common.{false, if◌then◌else◌, pos, negsuc, decimal, refl, arith, lit≤}
use Rattle.std.proofs.lemmas.Bool.{ltb-false}
use Rattle.std.proofs.lemmas.Bool.Decides.{nat_tests}
use Rattle.std.specs.Fmt.{digits, digits_onto, digit_glyph}
use Rattle.std.specs.List.{AllByRecursion}
use Rattle.json.specs.Print.{escape_letter, escape_byte, escape, quoted}
use Rattle.serde_json.specs.Data.{Num, unsigned, negative, float, Data, null, boolean, number, string, array, object}
use Rattle.serde_json.specs.Data.{Items, no_items, item, Members, no_members, member}
use Rattle.serde_json.specs.Written.{number_text, comma_if, compact_text, items_text, members_text}

abbrev IsPlain : List ℕ → Type 0
IsPlain bytes = AllByRecursion (λ b. 32 ≤ b) bytes

plain_append : (xs ys : List ℕ) → IsPlain xs → IsPlain ys → IsPlain (xs ++ ys)
plain_append [] ys hx hy = hy
plain_append (x ∷ xs) ys hx hy = (hx.0, plain_append xs ys hx.1 hy)

plain_if : (b : Bool) (xs ys : List ℕ) → (b ≡ true → IsPlain xs) → (b ≡ false → IsPlain ys) →
    IsPlain (if b then xs else ys)
plain_if true xs ys hx hy = hx refl
plain_if false xs ys hx hy = hy refl

glyph_plain : (b : Bool) (d : ℕ) → 32 ≤ (if b then 48 + d else 87 + d)
glyph_plain true d = omega arith
glyph_plain false d = omega arith

digits_plain : (k n : ℕ) (acc : List ℕ) → IsPlain acc → IsPlain (digits_onto k 10 false n acc)
digits_plain zero n acc h = h
digits_plain (suc k) n acc h =
    let more : IsPlain (digit_glyph false (n % 10) ∷ acc) = (glyph_plain (nat_lt (n % 10) 10) (n % 10), h) in
    plain_if (n / 10 == 0) _ _ (λ _. more) (λ _. digits_plain k (n / 10) (digit_glyph false (n % 10) ∷ acc) more)

decimal_plain : (n : ℕ) → IsPlain (decimal n)
unfolding digits
decimal_plain n = digits_plain 64 n [] tt

number_plain : (n : Num) → IsPlain (number_text n)
number_plain (unsigned n) = decimal_plain n
number_plain (negative (pos n)) = decimal_plain n
number_plain (negative (negsuc n)) = (lit≤ tt, decimal_plain (suc n))
number_plain (float x) = tt

letter_plain : (x : ℕ) → nat_lt 0 (escape_letter x) ≡ true → 32 ≤ escape_letter x
letter_plain x h = grind (arith, nat_tests)

byte_plain : (x : ℕ) → IsPlain (escape_byte x)
unfolding escape_byte
byte_plain x =
    plain_if (nat_lt 0 (escape_letter x)) _ _ (λ h. (lit≤ tt, (letter_plain x h, tt)))
    (λ _. plain_if (nat_lt x 32) _ _
    (λ _. (
      lit≤ tt,
      (
        lit≤ tt,
        (
          lit≤ tt,
          (
            lit≤ tt,
            (glyph_plain (nat_lt (x / 16) 10) (x / 16), (glyph_plain (nat_lt (x % 16) 10) (x % 16), tt)),
          ),
        ),
      ),
    ))
    (λ h. (ltb-false x 32 h, tt)))

escape_plain : (xs : List ℕ) → IsPlain (escape xs)
escape_plain [] = tt
escape_plain (x ∷ xs) = plain_append (escape_byte x) (escape xs) (byte_plain x) (escape_plain xs)

quoted_plain : (xs : List ℕ) → IsPlain (quoted xs)
quoted_plain xs = (lit≤ tt, plain_append (escape xs) (34 ∷ []) (escape_plain xs) (lit≤ tt, tt))

comma_plain : (later : Bool) → IsPlain (comma_if later)
comma_plain true = (lit≤ tt, tt)
comma_plain false = tt

mutual
  -- the text of any value
  pub text_plain : (d : Data) → IsPlain (compact_text d)
  text_plain null = (lit≤ tt, (lit≤ tt, (lit≤ tt, (lit≤ tt, tt))))
  text_plain (boolean true) = (lit≤ tt, (lit≤ tt, (lit≤ tt, (lit≤ tt, tt))))
  text_plain (boolean false) = (lit≤ tt, (lit≤ tt, (lit≤ tt, (lit≤ tt, (lit≤ tt, tt)))))
  text_plain (number n) = number_plain n
  text_plain (string s) = quoted_plain s
  text_plain (array ds) = (lit≤ tt, items_plain false ds)
  text_plain (object ms) = (lit≤ tt, members_plain false ms)

  items_plain : (later : Bool) (ds : Items) → IsPlain (items_text later ds)
  items_plain later no_items = (lit≤ tt, tt)
  items_plain later (item d ds) =
      plain_append (comma_if later) (compact_text d ++ items_text true ds) (comma_plain later)
      (plain_append (compact_text d) (items_text true ds) (text_plain d) (items_plain true ds))

  members_plain : (later : Bool) (ms : Members) → IsPlain (members_text later ms)
  members_plain later no_members = (lit≤ tt, tt)
  members_plain later (member k d ms) =
      plain_append (comma_if later) (quoted k ++ 58 ∷ (compact_text d ++ members_text true ms)) (comma_plain later)
      (plain_append (quoted k) (58 ∷ (compact_text d ++ members_text true ms)) (quoted_plain k)
      (lit≤ tt, plain_append (compact_text d) (members_text true ms) (text_plain d) (members_plain true ms)))
