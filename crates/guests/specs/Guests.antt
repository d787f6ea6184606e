-- The names of guests, and of the links by which they come.
use Rattle.std.specs.Prelude.{ℕ, ◌+◌, ◌%◌, Bool, ◌&&◌, ◌==◌, nat_lt, if◌then◌else◌, List, ◌++◌, length, map, take, codes, bytes_eq}
use Rattle.std.specs.List.{before_first}
use Rattle.sha2.specs.Sha256.{sha256}
use Rattle.guests.specs.declared.name.TheConstants.{GUEST_NAME, LINK_NAME}

-- whether a name is a guest's: it begins with guest-, and has 32 bytes
abbrev pub is_guest : List ℕ → Bool
is_guest name = length name == GUEST_NAME && bytes_eq (take 6 name) (codes "guest-")

-- the name of the link by which a guest came: the first 19 bytes of its own
abbrev pub link_of : List ℕ → List ℕ
link_of name = take LINK_NAME name

-- the letter for a byte: its last five bits in base 32 (RFC 4648, section 6), with small letters
abbrev pub letter : ℕ → ℕ
letter byte = if nat_lt (byte % 32) 26 then byte % 32 + 97 else byte % 32 + 24

-- the letters of a text: those for the first 13 bytes of its SHA-256
unfoldable pub letters : List ℕ → List ℕ
letters text = take 13 (map letter (sha256 text))

-- the secret of the link in a guest's token: what stands before the first point
abbrev pub secret_of : List ℕ → List ℕ
secret_of token = before_first (λ b. b == 46) token

-- the name of the link with a secret
unfoldable pub link_name : List ℕ → List ℕ
link_name secret = codes "guest-" ++ letters secret

-- the name of the guest with a token: the name of its link, and letters of its own
unfoldable pub guest_name : List ℕ → List ℕ
guest_name token = link_name (secret_of token) ++ letters token
