-- All lines of some bytes.
use Rattle.std.specs.Prelude.{◌≡◌, ℕ, Bool, true, false, ◌||◌, nat_lt, ◌==◌, if◌then◌else◌, List, [], ◌∷◌, length}
use Rattle.std.specs.List.{slice_split, list_any}
use Rattle.wire_lines.specs.Lines.{is_feed, without_return}
use Rattle.wire_lines.specs.Buffer.{Shows}
use Rattle.wire_lines.specs.declared.feed.TheConstants.{MAX_LINE}
use Rattle.wire_lines.specs.declared.buffer.FoundLine.{FoundLine}
use Rattle.wire_lines.specs.declared.buffer.FoundLine.TheVariants.{Text, TooLong, End}

-- whether a part between line feeds is longer than a line may be
abbrev pub is_long : List ℕ → Bool
is_long part = nat_lt MAX_LINE (length part)

-- the lines of the parts between line feeds, up to the first that is too long: each part without one carriage return at
-- its end, except the last, which is kept whole, and is not a line if it is empty
abbrev pub lines_of : List (List ℕ) → List (List ℕ)
lines_of [] = []
lines_of (part ∷ []) = if is_long part || length part == 0 then [] else part ∷ []
lines_of (part ∷ next ∷ parts) = if is_long part then []
    else without_return part ∷ lines_of (next ∷ parts)

-- the lines of the bytes, up to the first that is too long
abbrev pub lines : List ℕ → List (List ℕ)
lines bytes = lines_of (slice_split is_feed bytes)

-- whether the lines end because one is too long
abbrev pub is_cut : List ℕ → Bool
is_cut bytes = list_any is_long (slice_split is_feed bytes)

-- what is found is the first of the lines, and the bytes that stay have the others
abbrev pub GoesOn : FoundLine → List ℕ → List ℕ → List ℕ → Type 0
GoesOn Text bytes line rest = (lines bytes ≡ line ∷ lines rest) × (is_cut bytes ≡ is_cut rest)
GoesOn TooLong bytes line rest = (lines bytes ≡ []) × (is_cut bytes ≡ true)
GoesOn End bytes line rest = (lines bytes ≡ []) × (is_cut bytes ≡ false)

-- successive finds give the lines of the bytes
abbrev pub LinesLaw : Type 0
LinesLaw = (found : FoundLine) (bytes line rest : List ℕ) → Shows found bytes line rest
    → GoesOn found bytes line rest
