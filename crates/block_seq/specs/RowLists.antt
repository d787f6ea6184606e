-- Whose the visible characters of blocks are, which stamps they have, and lists of runs and spans that grow at their
-- end.
use Rattle.std.specs.Prelude.{◌≡◌, ℕ, ◌+◌, ◌<◌, List, [], ◌∷◌, take, sum_by, slice_get, replicate, if◌then◌else◌}
use Rattle.std.specs.Prelude.{IsSomeAnd}
use Rattle.pad_model.specs.Operation.{stamps_from}
use Rattle.pad_model.specs.Stamp.{Stamp, same_stamp}
use Rattle.pad_model.specs.Visible.{same_author}
use Rattle.pad_model.specs.declared.op.Span.{Span}
use Rattle.pad_model.specs.declared.who.Author.{Author}
use Rattle.pad_model.specs.declared.who.AuthorRun.{AuthorRun}
use Rattle.ident_index.specs.Index.{stamp_behind}
use Rattle.blocks.specs.Cells.{author_at}
use Rattle.blocks.specs.declared.block.Block.{Block}
use Rattle.blocks.specs.declared.find.Spot.{Spot}
use Rattle.block_seq.specs.Rows.{shows, shown_len}

-- the author of each visible character of a block
abbrev pub shown_by : ℕ → List Author → Block → List Author
shown_by rev authors b = if shows rev b then replicate b.len (author_at authors b.author) else []

-- the stamps of the visible characters of a block
abbrev pub shown_stamps : ℕ → Block → List Stamp
shown_stamps rev b = if shows rev b then stamps_from b.first b.len else []

-- the character visible at a place is so far into the block of this rank
abbrev pub IsSeenAt : ℕ → List Block → ℕ → Spot → Type 0
IsSeenAt rev bs place spot = IsSomeAnd (slice_get bs spot.rank) (λ b. spot.offset < shown_len rev b)
    × (place ≡ sum_by (shown_len rev) (take spot.rank bs) + spot.offset)

-- how many visible characters stand before an offset in the block of a rank
abbrev pub shown_front : ℕ → List Block → ℕ → ℕ → Block → ℕ
shown_front rev bs rank offset b = sum_by (shown_len rev) (take rank bs)
    + (if shows rev b then offset else 0)

-- runs with n more characters of an author behind them
abbrev pub with_more : List AuthorRun → Author → ℕ → List AuthorRun
with_more [] a n = record { author = a; len = n } ∷ []
with_more (r ∷ []) a n = if same_author r.author a then record r { len = r.len + n } ∷ [] else r
    ∷ record { author = a; len = n } ∷ []
with_more (r ∷ s ∷ rs) a n = r ∷ with_more (s ∷ rs) a n

-- spans with n more stamps from a first one on behind them
abbrev pub with_stamps : List Span → Stamp → ℕ → List Span
with_stamps [] first n = record { first = first; len = n } ∷ []
with_stamps (s ∷ []) first n = if same_stamp (stamp_behind s.first s.len) first
    then record s { len = s.len + n } ∷ []
    else s ∷ record { first = first; len = n } ∷ []
with_stamps (s ∷ t ∷ spans) first n = s ∷ with_stamps (t ∷ spans) first n
