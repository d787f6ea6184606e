-- What guests send: secrets, tokens and display names.
use Rattle.std.specs.Prelude.{ℕ, ◌+◌, Bool, not, ◌&&◌, ◌||◌, ◌==◌, nat_le, List, length, take, drop, slice_index}
use Rattle.std.specs.Char.{is_control}
use Rattle.std.specs.List.{list_all}
use Rattle.wire_json.specs.declared.guest_forms.TheConstants.{SECRET, TOKEN}

-- whether a byte is a digit of base64url (RFC 4648, section 5)
abbrev pub is_digit : ℕ → Bool
is_digit b = (nat_le 65 b && nat_le b 90) || (nat_le 97 b && nat_le b 122) || (nat_le 48 b && nat_le b 57)
    || b == 45 || b == 95

-- whether a text is a secret: 22 such digits, as 16 random bytes have
abbrev pub is_secret : List ℕ → Bool
is_secret text = length text == SECRET && list_all is_digit text

-- whether a text is a guest's token: the secret of its link, a point, and a secret of its own
abbrev pub is_token : List ℕ → Bool
is_token text =
    length text == TOKEN && is_secret (take SECRET text) && slice_index text SECRET == 46
    && is_secret (drop (SECRET + 1) text)

-- whether a display name has no control character
abbrev pub is_plain : List ℕ → Bool
is_plain display = list_all (λ c. not (is_control c)) display
