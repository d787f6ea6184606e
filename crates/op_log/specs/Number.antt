-- Numbers as bytes of seven bits, low first, each but the last with 128 added (LEB128, as in DWARF).
use Rattle.std.specs.Prelude.{ℕ, zero, suc, ◌+◌, ◌-◌, ◌*◌, ◌/◌, ◌%◌, ◌^◌, min, nat_lt, if◌then◌else◌, List, [], ◌∷◌}

-- the bytes of a number, of which there are at most `more` after the first
abbrev pub bytes_within : ℕ → ℕ → List ℕ
bytes_within zero n = n ∷ []
bytes_within (suc more) n = if nat_lt n 128 then n ∷ []
    else (n % 128 + 128) ∷ bytes_within more (n / 128)

-- the bytes of a number
unfoldable pub number_bytes : ℕ → List ℕ
number_bytes n = bytes_within n n

-- the number at the start of bytes, at most the greatest of 64 bits, and 0 where there are no bytes
abbrev pub number_at : List ℕ → ℕ
number_at [] = 0
number_at (byte ∷ bytes) = if nat_lt byte 128 then byte
    else min (min (number_at bytes * 128) (2 ^ 64 - 1) + (byte - 128)) (2 ^ 64 - 1)

-- the bytes after that number
abbrev pub after_number : List ℕ → List ℕ
after_number [] = []
after_number (byte ∷ bytes) = if nat_lt byte 128 then bytes else after_number bytes
