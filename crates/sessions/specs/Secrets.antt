-- What an author proves itself by.
use Rattle.std.specs.Prelude.{ℕ, Bool, List, bytes_eq}
use Rattle.hex.specs.Hex.{encode_lower}
use Rattle.sha2.specs.Sha256.{sha256}
use Rattle.sessions.specs.declared.secret.Secret.{Secret}
use Rattle.sessions.specs.declared.secret.Secret.TheVariants.{Token, Hash}

-- the hash of a token: its SHA-256, in 64 digits (FIPS 180-4)
abbrev pub hash_of : List ℕ → List ℕ
hash_of token = encode_lower (sha256 token)

-- whether a token is the one that an account has, or has the hash that it has
abbrev pub opens : List ℕ → Secret → Bool
opens token (Token own) = bytes_eq own token
opens token (Hash hash) = bytes_eq hash (hash_of token)
