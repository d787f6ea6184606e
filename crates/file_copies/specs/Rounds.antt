-- The bytes of a round, as a main server sends them and a standby keeps them in its log.
use Rattle.std.specs.Prelude.{ℕ, List, [], ◌∷◌, ◌++◌, length}
use Rattle.file_copies.specs.Requests.{keep_data, line_of}
use Rattle.file_copies.specs.declared.round.FileStretch.{FileStretch}

-- a stretch of a pad's file in a round: the line that announces it, and its bytes
abbrev pub stretch_bytes : List ℕ → ℕ → List ℕ → List ℕ
stretch_bytes pad from lines = line_of (keep_data pad from (length lines)) ++ lines

-- the stretches of a round, one after the other
abbrev pub round_bytes : List FileStretch → List ℕ
round_bytes [] = []
round_bytes (stretch ∷ round) = stretch_bytes stretch.pad stretch.from stretch.lines.items ++ round_bytes round
