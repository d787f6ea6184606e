-- The invariants of a splitter of lines and of an inlet.
use Rattle.std.specs.Prelude.{◌≡◌, ◌⊎◌, ℕ, ◌≤◌, List, length, slice_index}
use Rattle.wire_lines.specs.Lines.{line_end}
use Rattle.wire_lines.specs.declared.inlet.TheConstants.{MAX_READS, CHUNK}

-- the end of the first line of a splitter is known, and the line found last is the front of the bytes taken last
pub record IsSplit (waiting taken : List ℕ) (end line_len : ℕ) : Type 0 where
  pub ends : end ≡ line_end waiting
  pub end_in : end ≤ length waiting
  pub line_in : line_len ≤ length taken

-- the search for a line feed ended here: at one, or behind all that waits
abbrev pub IsSearched : List ℕ → ℕ → Type 0
IsSearched waiting end = (end ≡ length waiting) ⊎ (slice_index waiting end ≡ 10)

-- the last read of an inlet gave this many bytes of a chunk, and at most as many reads were made as may be
pub record IsInlet (chunk : List ℕ) (count reads : ℕ) : Type 0 where
  pub count_in : count ≤ length chunk
  pub whole_chunk : length chunk ≡ CHUNK
  pub few : reads ≤ MAX_READS
