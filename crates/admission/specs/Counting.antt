-- How connections and wrong tokens are counted.
use Rattle.std.specs.Prelude.{ℕ, ◌≡◌, ◌+◌, ◌-◌, ◌^◌, min, nat_lt, nat_eq, if◌then◌else◌, List, Option, None, Some, unwrap_or}
use Rattle.std.specs.Map.{lookup}
use Rattle.admission.specs.declared.wrong_tokens.TokenCount.{TokenCount}
use Rattle.admission.specs.declared.wrong_tokens.TheConstants.{FORGOTTEN_AFTER}

-- the number of connections that an address has
abbrev pub connections_of : List (ℕ × ℕ) → ℕ → ℕ
connections_of counts address = unwrap_or (lookup (nat_eq address) counts) 0

-- the wrong tokens of addresses and for names, those of whom the last came latest first, and how many came in all
pub record Tokens : Type 0 where
  pub addresses : List (ℕ × TokenCount)
  pub names : List (List ℕ × TokenCount)
  pub total : ℕ

-- how many tokens of a count are remembered at a time: all of them until the last one is forgotten
abbrev pub tokens_at : ℕ → Option TokenCount → ℕ
tokens_at now None = 0
tokens_at now (Some count) = if nat_lt (now - count.last) FORGOTTEN_AFTER then count.tokens else 0

-- one more, up to the largest number of so many bits
abbrev pub one_more : ℕ → ℕ → ℕ
one_more bits number = min (number + 1) (2 ^ bits - 1)

-- one more token was counted at a time: those that were remembered, and this one
abbrev pub IsCounted : ℕ → Option TokenCount → Option TokenCount → ℕ → Type 0
IsCounted now old new tokens =
    (tokens ≡ one_more 32 (tokens_at now old)) × (new ≡ Some (record { tokens = tokens; last = now }))
