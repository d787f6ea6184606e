-- The link with which an author logs in.
use Rattle.std.specs.Prelude.{ℕ, ◌+◌, ◌-◌, ◌/◌, ◌%◌, ◌==◌, ◌&&◌, ◌||◌, Bool, nat_le, nat_lt, if◌then◌else◌, List, [], ◌∷◌, ◌++◌}
use Rattle.std.specs.Prelude.{Option, None, Some, codes}
use Rattle.std.specs.Borrow.{Bor}
use Rattle.pad_accounts.specs.declared.link.LinkForm.{LinkForm}

-- a letter, a digit, or one of - . _ ~
abbrev pub is_plain : ℕ → Bool
is_plain byte =
    (nat_le 48 byte && nat_le byte 57) || ((nat_le 65 byte && nat_le byte 90) || ((nat_le 97 byte && nat_le byte 122)
    || (byte == 45 || (byte == 46 || (byte == 95 || byte == 126)))))

-- the digit of a number below 16: 0 to 9, A to F
abbrev pub digit_of : ℕ → ℕ
digit_of number = if nat_lt number 10 then 48 + number else 65 + (number - 10)

-- a byte as an address has it: as it is, or as % and two digits (RFC 3986, section 2.1)
abbrev pub escaped : ℕ → List ℕ
escaped byte = if is_plain byte then byte ∷ [] else 37 ∷ digit_of (byte / 16) ∷ digit_of (byte % 16) ∷ []

-- a text with a token behind it, as an address has it
abbrev pub with_token : List ℕ → List ℕ → List ℕ
with_token text [] = text
with_token text (byte ∷ rest) = with_token (text ++ escaped byte) rest

-- a text with the part of a link behind it that names a pad, if one is to be opened
abbrev pub with_pad : List ℕ → Option (Bor (List ℕ)) → List ℕ
with_pad text None = text
with_pad text (Some pad) = text ++ codes "&pad=" ++ pad.now

-- the origin that is named, or else that of a server on this machine
abbrev pub origin_of : Option (Bor (List ℕ)) → List ℕ
origin_of None = codes "http://127.0.0.1:8080"
origin_of (Some at) = at.now

-- a text with the line `URL/#in=NAME.TOKEN` or `URL/#in=NAME.TOKEN&pad=PAD` behind it
abbrev pub with_link : List ℕ → LinkForm → List ℕ → List ℕ → List ℕ
with_link text form name token =
    with_pad (with_token (text ++ origin_of form.at ++ codes "/#in=" ++ name ++ codes ".") token) form.pad ++ (10 ∷ [])
