-- The statements of the laws of changes.
use Rattle.std.specs.Prelude.{◌≡◌, ℕ, ◌<◌, ◌+◌, List, length, map, sum_by, take}
use Rattle.std.specs.List.{AllByRecursion}
use Rattle.pad_model.specs.Cell.{Cell, cells_at, runs_at, text_at}
use Rattle.pad_model.specs.Pieces.{AreApart, patched, changes, insertions, new_len, old_len, written, written_in}
use Rattle.pad_model.specs.History.{IsHistory, cells_of}
use Rattle.pad_model.specs.Operation.{characters_in}
use Rattle.pad_model.specs.Visible.{runs_of, text_of, visible}
use Rattle.pad_model.specs.declared.op.Op.{Op}

-- the changes between two revisions, applied to what the first shows, give what the second shows, with its authors;
-- they keep and drop exactly the characters of the first text, and keep and insert exactly those of the second
abbrev pub ChangesLaw : Type 0
ChangesLaw =
    (rev to : ℕ) (cells : List Cell)
    → (patched (changes rev to cells) (written_in (cells_at rev cells))
    ≡ written_in (cells_at to cells))
    × (sum_by old_len (changes rev to cells) ≡ length (cells_at rev cells))
    × (sum_by new_len (changes rev to cells) ≡ length (cells_at to cells))

-- changes are the fewest: no piece is empty, and no two neighbours are alike
abbrev pub FewestLaw : Type 0
FewestLaw =
    (rev to : ℕ) (cells : List Cell)
    → AllByRecursion (λ p. 0 < old_len p + new_len p) (changes rev to cells)
    × AreApart (changes rev to cells)

-- since an empty revision, the changes insert the whole text, with one insertion for each author run
abbrev pub FirstLaw : Type 0
FirstLaw =
    (rev to : ℕ) (cells : List Cell) → AllByRecursion (λ c. rev < c.born) cells →
    changes rev to cells ≡ insertions (runs_at to cells) (text_at to cells)

-- two successive answers give what a single answer gives
abbrev pub ComposedLaw : Type 0
ComposedLaw =
    (a b c : ℕ) (cells : List Cell)
    → patched (changes b c cells) (patched (changes a b cells) (written_in (cells_at a cells)))
    ≡ patched (changes a c cells) (written_in (cells_at a cells))

-- the changes between two revisions of a log, applied to what its first k operations show, give what its first n show
abbrev pub LogChangesLaw : Type 0
LogChangesLaw =
    (log : List Op) → IsHistory log → (k n : ℕ) →
    patched (changes k n (cells_of log)) (map written (visible (characters_in (take k log))))
    ≡ map written (visible (characters_in (take n log)))

-- since the empty pad, the changes of a log are one insertion for each author run of its text
abbrev pub LogFirstLaw : Type 0
LogFirstLaw =
    (log : List Op) → IsHistory log → (n : ℕ) → changes 0 n (cells_of log)
    ≡ insertions (runs_of (characters_in (take n log))) (text_of (characters_in (take n log)))
