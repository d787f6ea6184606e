-- A copy of a pad's file, and what stretches of the file make of it.
use Rattle.std.specs.Prelude.{◌≡◌, ◌≢◌, ◌≤◌, ◌<◌, ◌+◌, ℕ, List, length, Some, None, string_bytes}
use Rattle.file_copies.specs.Stretches.{stretch_sum}
use Rattle.file_copies.specs.declared.pad_copy.PadCopy.{PadCopy}
use Rattle.file_copies.specs.declared.pad_copy.NoStretch.{NoStretch}
use Rattle.file_copies.specs.declared.pad_copy.NoStretch.TheVariants as why

-- a copy after a stretch that begins where the copy ends, and whose lines are linked to the last one of the copy
pub record Follows (from : ℕ) (lines : List ℕ) (old new : PadCopy) : Type 0 where
  pub begins : from ≡ old.length
  pub longer : new.length ≡ old.length + length lines
  pub linked : stretch_sum (string_bytes old.sum) lines ≡ Some (string_bytes new.sum)

-- why a stretch is not taken: it begins elsewhere than where the copy ends; or else it makes the copy too long; or else
-- there is no memory, or it is not whole lines, each linked to the one before it
abbrev pub IsRefused : ℕ → List ℕ → PadCopy → NoStretch → Type 0
IsRefused from lines copy why.Memory = (from ≡ copy.length) × (copy.length + length lines ≤ 18446744073709551615)
IsRefused from lines copy (why.Elsewhere at had) = (from ≢ copy.length) × (at ≡ from) × (had ≡ copy.length)
IsRefused from lines copy (why.Unlinked at) = (from ≡ copy.length) × (at ≡ from)
    × (stretch_sum (string_bytes copy.sum) lines ≡ None)
IsRefused from lines copy why.TooLong = (from ≡ copy.length) × (18446744073709551615 < copy.length + length lines)
