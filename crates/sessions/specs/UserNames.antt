-- The name of an author who has no line: it is made from what a proxy calls the user.
use Rattle.std.specs.Prelude.{ℕ, ◌+◌, ◌-◌, ◌*◌, ◌/◌, ◌%◌, Bool, ◌&&◌, ◌||◌, ◌==◌, nat_le, nat_lt, if◌then◌else◌, List, [], ◌∷◌, ◌++◌}
use Rattle.std.specs.Prelude.{fold, bytes_eq, Option, None, Some}
use Rattle.sessions.specs.declared.user_name.Escape.{Escape}
use Rattle.sessions.specs.declared.user_name.Escape.TheVariants.{Without, Dash, First, Second}

-- whether a byte is one of a-z and 0-9, which stand for themselves
abbrev pub is_plain : ℕ → Bool
is_plain byte = (nat_le 97 byte && nat_le byte 122) || (nat_le 48 byte && nat_le byte 57)

-- a digit of base 16: 0-9, a-f
abbrev pub digit_of : ℕ → ℕ
digit_of number = if nat_lt number 10 then number + 48 else number + 87

-- the letters that stand for a byte: a-z and 0-9 for themselves, -- for -, -p for a point, -t for @, -u for _, -s for +, and
-- for any other byte -x with its two digits of base 16
abbrev pub letters_of : ℕ → List ℕ
letters_of byte =
    if is_plain byte then byte ∷ []
    else if byte == 45 then 45 ∷ 45 ∷ []
    else if byte == 46 then 45 ∷ 112 ∷ []
    else if byte == 64 then 45 ∷ 116 ∷ []
    else if byte == 95 then 45 ∷ 117 ∷ []
    else if byte == 43 then 45 ∷ 115 ∷ []
    else 45 ∷ 120 ∷ digit_of (byte / 16) ∷ digit_of (byte % 16) ∷ []

-- the name that is made from a user: the letters of its bytes, one after the other
abbrev pub name_for : List ℕ → List ℕ
name_for [] = []
name_for (byte ∷ rest) = letters_of byte ++ name_for rest

-- the user so far, of the letters of a name, and how far an escape is
pub record Reading : Type 0 where
  pub user : List ℕ
  pub escape : Escape

-- nothing is read
abbrev pub unread : Reading
unread = record { user = []; escape = Without }

-- one more byte, after which no escape is open
abbrev pub with_byte : Reading → ℕ → Reading
with_byte r byte = record { user = r.user ++ byte ∷ []; escape = Without }

-- the byte for which a - and this letter stand
abbrev pub byte_behind : ℕ → ℕ
byte_behind letter =
    if letter == 112 then 46
    else if letter == 116 then 64
    else if letter == 117 then 95
    else if letter == 115 then 43
    else letter

-- the number that a digit of base 16 stands for
abbrev pub number_of : ℕ → ℕ
number_of digit = if nat_lt digit 97 then digit - 48 else digit - 87

-- a name with one more letter, by the escape that is open
abbrev pub with_letter : Reading → Escape → ℕ → Reading
with_letter r Without letter = if letter == 45 then record { user = r.user; escape = Dash } else with_byte r letter
with_letter r Dash letter = if letter == 120 then record { user = r.user; escape = First } else with_byte r (byte_behind letter)
with_letter r First letter = record { user = r.user; escape = Second letter }
with_letter r (Second first) letter = with_byte r ((number_of first * 16 + number_of letter) % 256)

-- a name with one more letter
abbrev pub read : Reading → ℕ → Reading
read r letter = with_letter r r.escape letter

-- the bytes that the letters of a name lead to
abbrev pub bytes_in : List ℕ → List ℕ
bytes_in name = (fold read unread name).user

-- the user whose name this is, if it is the name that is made from one
abbrev pub user_for : List ℕ → Option (List ℕ)
user_for name = if bytes_eq (name_for (bytes_in name)) name then Some (bytes_in name) else None
