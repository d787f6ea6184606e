-- The lines of a pad's file, and the sums that link them.
use Rattle.std.specs.Prelude.{ℕ, ◌-◌, ◌==◌, ◌&&◌, ◌||◌, nat_le, nat_lt, if◌then◌else◌, Bool, List, [], ◌∷◌, ◌++◌, length}
use Rattle.std.specs.Prelude.{take, drop, codes, bytes_eq, Option, Some, None}
use Rattle.std.specs.List.{list_all}
use Rattle.hex.specs.Hex.{encode_lower}
use Rattle.sha2.specs.Sha256.{sha256}

-- the sum of a text after an earlier sum: the SHA-256 of both, in 64 digits (FIPS 180-4)
abbrev pub sum_after : List ℕ → List ℕ → List ℕ
sum_after before text = encode_lower (sha256 (before ++ text))

-- a list of a text and a sum
abbrev pub framed : List ℕ → List ℕ → List ℕ
framed text sum = codes "[" ++ text ++ codes ",\"" ++ sum ++ codes "\"]"

-- the line of a text after a sum: a list of the text and its own sum
abbrev pub line_text : List ℕ → List ℕ → List ℕ
line_text before text = framed text (sum_after before text)

-- the text of a line that is linked to a sum, if it is
abbrev pub text_behind : List ℕ → List ℕ → Option (List ℕ)
text_behind before line =
    if nat_lt (length line) 69 then None
    else if bytes_eq line (line_text before (take (length line - 69) (drop 1 line)))
    then Some (take (length line - 69) (drop 1 line))
    else None

-- whether a byte is a digit of a sum
abbrev pub is_digit : ℕ → Bool
is_digit byte = (nat_le 48 byte && nat_le byte 57) || (nat_le 97 byte && nat_le byte 102)

-- the text, if a line consists of it and of a sum in this form
abbrev pub if_framed : List ℕ → List ℕ → List ℕ → Option (List ℕ)
if_framed line text sum = if bytes_eq line (framed text sum) && list_all is_digit sum then Some text
    else None

-- the text of a line with the form of one, whatever line it is linked to
abbrev pub text_within : List ℕ → Option (List ℕ)
text_within line =
    if nat_lt (length line) 69 then None
    else if_framed line (take (length line - 69) (drop 1 line))
    (take 64 (drop (length line - 66) line))

-- the linked lines of some texts, the first of which follows a sum
abbrev pub lines_behind : List ℕ → List (List ℕ) → List (List ℕ)
lines_behind before [] = []
lines_behind before (text ∷ texts) = line_text before text
    ∷ lines_behind (sum_after before text) texts

-- whether a byte is a line feed
abbrev pub is_feed : ℕ → Bool
is_feed byte = byte == 10

-- the bytes of a file: its lines, each with a line feed
abbrev pub bytes_of : List (List ℕ) → List ℕ
bytes_of [] = []
bytes_of (line ∷ lines) = line ++ 10 ∷ bytes_of lines

-- the whole lines after one more byte in front, which belongs to the first of them, if there is one
abbrev pub with_byte : ℕ → List (List ℕ) → List (List ℕ)
with_byte byte [] = []
with_byte byte (line ∷ lines) = (byte ∷ line) ∷ lines

-- the whole lines of a file, without their line feeds; what follows the last line feed belongs to none
abbrev pub whole_lines : List ℕ → List (List ℕ)
whole_lines [] = []
whole_lines (byte ∷ bytes) = if is_feed byte then [] ∷ whole_lines bytes
    else with_byte byte (whole_lines bytes)
