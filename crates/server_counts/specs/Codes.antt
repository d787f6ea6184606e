-- The number of a refusal, by the line of its reply.
use Rattle.std.specs.Prelude.{ℕ, ◌+◌, ◌*◌, ◌-◌, ◌&&◌, nat_le, if◌then◌else◌, List, [], ◌∷◌, take, drop, codes, bytes_eq, Option, Some, None}

-- the value of a digit; 0 for another byte
abbrev pub digit : ℕ → ℕ
digit byte = if nat_le 48 byte && nat_le byte 57 then byte - 48 else 0

-- the number of three digits
abbrev pub number_of : List ℕ → Option ℕ
number_of (hundreds ∷ tens ∷ ones ∷ rest) = Some (100 * digit hundreds + 10 * digit tens + digit ones)
number_of other = None

-- the number of a refusal: the three digits behind `{"code":`; None for another reply
abbrev pub code_of_reply : List ℕ → Option ℕ
code_of_reply line = if bytes_eq (take 8 line) (codes "{\"code\":") then number_of (drop 8 line) else None
