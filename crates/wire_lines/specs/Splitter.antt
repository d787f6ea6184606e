-- A splitter of lines and an inlet, as callers see them.
use Rattle.std.specs.Prelude.{ℕ, Bool, not, ◌&&◌, nat_lt, List, length}
use Rattle.wire_lines.specs.Lines.{line_end, is_too_long}

-- a splitter of lines as callers see it: the bytes that wait, and the line that was found last
pub record Split : Type 0 where
  pub waiting : List ℕ
  pub line : List ℕ

-- whether a line feed ends the first line, and it is not too long
abbrev pub has_line : List ℕ → Bool
has_line bytes = nat_lt (line_end bytes) (length bytes) && not (is_too_long bytes)

-- an inlet as callers see it: the bytes of the last read, how many reads were made, and whether the source has ended
pub record Come : Type 0 where
  pub bytes : List ℕ
  pub reads : ℕ
  pub ended : Bool
