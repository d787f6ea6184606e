-- What a stretch that is put into a round makes of the round and of the copies.
use Rattle.std.proofs.Common.{◌≡◌, ℕ, ◌+◌, ◌++◌, List, get_or, inr, length, set, sym, ap, ◌∙◌}
use Rattle.file_copies.specs.Rounds.{stretch_bytes}
use Rattle.standby.specs.Rounds.{Puts}

-- a stretch that begins where a copy ends was put, and the copy counts for as much more
pub is_put : (cell : ℕ) (copied copied_then round round_then pad lines : List ℕ) (from upto : ℕ) →
    from ≡ get_or copied cell 0 → upto ≡ from + length lines → round_then ≡ round ++ stretch_bytes pad from lines →
    copied_then ≡ set copied cell upto → Puts cell copied copied_then round round_then
is_put cell copied copied_then round round_then pad lines from upto there long put longer = inr (
  pad,
  lines,
  put ∙ ap (λ (n : ℕ). round ++ stretch_bytes pad n lines) there,
  longer ∙ ap (λ (n : ℕ). set copied cell n) (long ∙ ap (λ (n : ℕ). n + length lines) there),
)
