-- Bytes as lines: where the first one ends, its bytes, and what follows it.
use Rattle.std.specs.Prelude.{ℕ, ◌+◌, Bool, ◌==◌, nat_lt, if◌then◌else◌, List, length, take, drop}
use Rattle.std.specs.List.{position_or_len}
use Rattle.std.specs.Io.BufRead.{strip_last}
use Rattle.wire_lines.specs.declared.feed.TheConstants.{MAX_LINE}

-- whether a byte is a line feed
abbrev pub is_feed : ℕ → Bool
is_feed byte = byte == 10

-- where the first line ends: at its line feed, or where the bytes end
abbrev pub line_end : List ℕ → ℕ
line_end bytes = position_or_len is_feed bytes

-- a line without one carriage return at its end
abbrev pub without_return : List ℕ → List ℕ
without_return line = strip_last 13 line

-- the first line, without its line feed and one carriage return before it; a line that no line feed ends is kept whole
abbrev pub first_line : List ℕ → List ℕ
first_line bytes = if nat_lt (line_end bytes) (length bytes)
    then without_return (take (line_end bytes) bytes)
    else bytes

-- the bytes after the first line
abbrev pub behind_line : List ℕ → List ℕ
behind_line bytes = drop (line_end bytes + 1) bytes

-- whether the first line has more bytes than a line may have, including a carriage return
abbrev pub is_too_long : List ℕ → Bool
is_too_long bytes = nat_lt MAX_LINE (line_end bytes)
