-- What a copy of a pad's file has of the file, and what a crash of either machine leaves of it.
use Rattle.std.specs.Prelude.{◌≡◌, ℕ, ◌≤◌, List, [], ◌∷◌, ◌++◌, length, take, true, Some}
use Rattle.std.specs.List.{AllByRecursion}
use Rattle.store_format.specs.Laws.{Disk, IsLine, MayLeave, file_of, last_sum}
use Rattle.store_format.specs.Lines.{bytes_of, lines_behind}
use Rattle.file_copies.specs.Stretches.{are_whole, stretch_sum}

-- whole lines, each linked to the one before it, are the lines of some texts; and the lines of texts without a line feed
-- are such lines
pub record StretchLaw : Type 0 where
  pub texts : (before bytes sum : List ℕ) → stretch_sum before bytes ≡ Some sum →
      (texts : List (List ℕ)) × (bytes ≡ bytes_of (lines_behind before texts)) × (sum ≡ last_sum before texts)
  pub lines : (before : List ℕ) (texts : List (List ℕ)) → AllByRecursion IsLine texts →
      stretch_sum before (bytes_of (lines_behind before texts)) ≡ Some (last_sum before texts)

-- what a copy of a file may have: nothing, or what it had and a stretch of the file that begins where the copy ends.
-- Stretches that begin elsewhere, because they were repeated or others were lost, change nothing
pub data IsCopy (file : List ℕ) : List ℕ → Type 0 where
  begins : (copy : List ℕ) → copy ≡ [] → IsCopy file copy
  takes : (copy had before lines after : List ℕ) → IsCopy file had → file ≡ before ++ (lines ++ after)
      → length before ≡ length had → copy ≡ had ++ lines →
      IsCopy file copy

-- whatever stretches of a file a copy takes, it has the first bytes of the file, also when the file has grown; and a copy
-- of whole lines has the lines of the file's first texts
pub record CopyLaw : Type 0 where
  pub front : (file copy : List ℕ) → IsCopy file copy → (rest : List ℕ) × (file ≡ copy ++ rest)
  pub grown : (file more copy : List ℕ) → IsCopy file copy → IsCopy (file ++ more) copy
  pub lines : (texts : List (List ℕ)) (copy : List ℕ) → AllByRecursion IsLine texts → IsCopy (file_of texts) copy
      → are_whole copy ≡ true →
      (count : ℕ) × (copy ≡ file_of (take count texts))

-- what a crash of the standby leaves of a copy could be left of the main server's own file by a crash that keeps as many
-- bytes as the standby had synced. So `crash_law` of `store_format` says of a server that starts on the copy, with any
-- number: each pad is as it was, restarted, when it had left the records of these lines, and at least those that the
-- standby had synced
abbrev pub CopyCrashLaw : Type 0
CopyCrashLaw =
    (texts : List (List ℕ)) (count : ℕ) (disk : Disk) (bytes : List ℕ) →
    1 ≤ count → count ≤ length texts → disk.written ≡ file_of (take count texts)
    → disk.synced ≤ length disk.written →
    MayLeave disk (take count texts) bytes →
    MayLeave (record { written = file_of texts; synced = disk.synced }) texts bytes

-- a stretch of a file: the place where it begins, and its bytes
pub record Stretch : Type 0 where
  pub from : ℕ
  pub lines : List ℕ

-- a file after a stretch was put back: what it had before the place of the stretch, and the stretch
abbrev pub put_back : List ℕ → Stretch → List ℕ
put_back left stretch = take stretch.from left ++ stretch.lines

-- a file after stretches were put back, one after the other
abbrev pub completed : List ℕ → List Stretch → List ℕ
completed left [] = left
completed left (stretch ∷ log) = completed (put_back left stretch) log

-- what a copy has once it took the stretches of a log, each of which begins where it then ended
abbrev pub HasTaken : List ℕ → List Stretch → List ℕ → Type 0
HasTaken copy [] after = after ≡ copy
HasTaken copy (stretch ∷ log) after = (stretch.from ≡ length copy) × HasTaken (copy ++ stretch.lines) log after

-- whatever a crash left behind what was synced of a copy: once the stretches of its log are put back, it is what it was when
-- it had taken the last of them. And whatever stretches were put back before, what was synced is still there: so the same
-- holds if the next crash comes in between
pub record LogLaw : Type 0 where
  pub whole : (synced left after : List ℕ) (first : Stretch) (log : List Stretch) → HasTaken synced (first ∷ log) after
      → completed (synced ++ left) (first ∷ log) ≡ after
  pub again : (synced left after : List ℕ) (log : List Stretch) → HasTaken synced log after
      → (rest : List ℕ) × (completed (synced ++ left) log ≡ synced ++ rest)
