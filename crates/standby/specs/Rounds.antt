-- What a round is made of, and what it says of each copy.
use Rattle.std.specs.Prelude.{◌≡◌, ◌⊎◌, ◌+◌, ℕ, List, ◌++◌, get_or, length, set}
use Rattle.file_copies.specs.Rounds.{stretch_bytes}

-- nothing was put into a round for the file at a cell; or a stretch that begins where the copy ends, which then is so
-- much longer. All other copies stay as they were
abbrev pub Puts : ℕ → List ℕ → List ℕ → List ℕ → List ℕ → Type 0
Puts cell copied copied_then round round_then =
    ((round_then ≡ round) × (copied_then ≡ copied))
    ⊎ ((pad : List ℕ) × (lines : List ℕ) × (round_then ≡ round ++ stretch_bytes pad (get_or copied cell 0) lines)
    × (copied_then ≡ set copied cell (get_or copied cell 0 + length lines)))
