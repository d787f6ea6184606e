-- What is appended to a copy of a pad's file.
use Rattle.std.specs.Prelude.{ℕ, ◌==◌, if◌then◌else◌, Bool, true, List, [], ◌∷◌, Option, Some, None, option_and_then}
use Rattle.store_format.specs.Lines.{sum_after, text_behind, whole_lines}

-- whether bytes end with a line feed, or there are none
abbrev pub are_whole : List ℕ → Bool
are_whole [] = true
are_whole (byte ∷ []) = byte == 10
are_whole (byte ∷ next ∷ bytes) = are_whole (next ∷ bytes)

-- the sum of the last of some lines, if each is linked to the one before it
abbrev pub sum_behind : List ℕ → List (List ℕ) → Option (List ℕ)
sum_behind before [] = Some before
sum_behind before (line ∷ lines) = option_and_then (λ text. sum_behind (sum_after before text) lines)
    (text_behind before line)

-- the sum of the last line of some bytes, if they are whole lines, each linked to the one before it
abbrev pub stretch_sum : List ℕ → List ℕ → Option (List ℕ)
stretch_sum before bytes = if are_whole bytes then sum_behind before (whole_lines bytes) else None
