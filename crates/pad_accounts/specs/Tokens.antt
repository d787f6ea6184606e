-- The tokens that are made.
use Rattle.std.specs.Prelude.{ℕ, ◌%◌, List, map, codes, slice_index}

-- the character of a random byte: one of 32, each for as many bytes as any other
abbrev pub symbol_of : ℕ → ℕ
symbol_of byte = slice_index (codes "0123456789abcdefghjkmnpqrstvwxyz") (byte % 32)

-- the token of random bytes: a character for each
abbrev pub token_of : List ℕ → List ℕ
token_of random = map symbol_of random
