-- What the sequence of blocks keeps.
use Rattle.std.specs.Prelude.{◌≡◌, ℕ, suc, ◌-◌, ◌≤◌, ◌<◌, List, ◌++◌, length, sum_by, take, drop, Option, Some, None}
use Rattle.std.specs.Prelude.{slice_get, [], ◌∷◌, Bool, nat_le, nat_lt, ◌&&◌, is_none, flat_map, if◌then◌else◌}
use Rattle.std.specs.List.{AllByRecursion, prefix_len}
use Rattle.pad_model.specs.Cell.{Cell, IsBy, IsInOrder, character_of, clock_of, is_after}
use Rattle.pad_model.specs.Scan.{put}
use Rattle.pad_model.specs.Stamp.{Stamp, newer}
use Rattle.pad_model.specs.declared.who.Author.{Author}
use Rattle.ident_index.specs.Index.{Index, Covers, stamp_behind}
use Rattle.pad_model.specs.Operation.{span_stamps}
use Rattle.pad_model.specs.Visible.{is_erased}
use Rattle.pad_model.specs.declared.op.Span.{Span}
use Rattle.blocks.specs.Blocks.{IsKept, IsEdge}
use Rattle.blocks.specs.Cells.{cells_of, stretch, IsWithin}
use Rattle.blocks.specs.declared.block.Block.{Block}

-- the index is that of the blocks, their stretches and authors are there, they fill the text, the cells stand in
-- preorder,
-- none is later than the last revision, and the clock is their greatest counter
pub record IsBlockSeq (latest clock : ℕ) (authors : List Author) (text : List ℕ) (m : Index)
    (bs : List Block) : Type 0 where
  pub kept : IsKept m bs
  pub within : AllByRecursion (IsWithin (length authors) (length text)) bs
  pub full : length text ≡ sum_by (λ b. b.len) bs
  pub order : IsInOrder (cells_of authors text bs)
  pub dated : AllByRecursion (IsBy latest) (cells_of authors text bs)
  pub newest : clock_of (cells_of authors text bs) ≡ clock

-- what callers see of a sequence of blocks: its cells, the blocks that keep them and their number
pub record CellsInBlocks : Type 0 where
  pub cells : List Cell
  pub tree : List Block
  pub blocks : ℕ

-- the cells of blocks, the blocks and their number
abbrev pub cells_in : List Author → List ℕ → List Block → CellsInBlocks
cells_in authors text bs = record {
  cells = cells_of authors text bs;
  tree = bs;
  blocks = length bs;
}

-- the cells are those of these blocks, each a stretch of some text by one of some authors, and the index has just these
-- blocks
pub record IsRowOf (cells : List Cell) (m : Index) (bs : List Block) : Type 0 where
  pub authors : List Author
  pub text : List ℕ
  pub kept : IsKept m bs
  pub within : AllByRecursion (IsWithin (length authors) (length text)) bs
  pub same : cells_of authors text bs ≡ cells

-- no birth and no death of a block is later than a revision
abbrev pub IsDated : ℕ → Block → Type 0
IsDated rev b = (b.born ≤ rev) × ((died : ℕ) → b.died ≡ Some died → died ≤ rev)

-- the block before the rank is the one that ends with the stamp, and none before it holds the stamp
pub record IsBehind (bs : List Block) (p : Stamp) (rank : ℕ) : Type 0 where
  pub at : ℕ
  pub block : Block
  pub next : rank ≡ suc at
  pub there : slice_get bs at ≡ Some block
  pub ends : p ≡ stamp_behind block.first (block.len - 1)
  pub first : (i : ℕ) (b : Block) → i < at → slice_get bs i ≡ Some b → Covers b.first b.len p → ⊥

-- the search for a run's place begins at this rank: at the start, or behind its parent
abbrev pub StartsAt : Option Stamp → List Block → ℕ → Type 0
StartsAt None bs rank = rank ≡ 0
StartsAt (Some p) bs rank = IsBehind bs p rank

-- a run goes to this rank: behind its parent, past each block that begins with a newer stamp
abbrev pub IsPlaceFor : Option Stamp → Stamp → List Block → ℕ → Type 0
IsPlaceFor parent first bs rank =
    (authors : List Author) (text : List ℕ)
    → AllByRecursion (IsWithin (length authors) (length text)) bs →
    (new : List Cell) →
    put character_of parent first new (cells_of authors text bs)
    ≡ cells_of authors text (take rank bs)
    ++ (new ++ cells_of authors text (drop rank bs))

-- how many blocks in front begin with a newer stamp
abbrev pub passes : Stamp → List Block → ℕ
passes first bs = prefix_len (λ b. newer b.first first) bs

-- no block reaches over the beginning of a span, nor over its end
abbrev pub IsCutOut : Index → Span → Type 0
IsCutOut m span = IsEdge m span.first × IsEdge m (stamp_behind span.first span.len)

-- the span of so many stamps from a first one on, alone
abbrev pub span_from : Stamp → ℕ → List Span
span_from first n = record { first = first; len = n } ∷ []

-- whether a deletion newly hides a block, by its first stamp
abbrev pub is_killed : List Span → Block → Bool
is_killed spans b = is_erased (flat_map span_stamps spans) b.first && is_none b.died

-- a block after a deletion
abbrev pub killed : ℕ → List Span → Block → Block
killed rev spans b = if is_killed spans b then record b { died = Some rev } else b

-- how many characters of a block a deletion newly hides
abbrev pub hidden_len : List Span → Block → ℕ
hidden_len spans b = if is_killed spans b then b.len else 0

-- whether a block is visible at a revision
abbrev pub shows : ℕ → Block → Bool
shows rev b = nat_le b.born rev && is_after rev b.died

-- how many characters of a block are visible at a revision
abbrev pub shown_len : ℕ → Block → ℕ
shown_len rev b = if shows rev b then b.len else 0

-- the visible characters of a block
abbrev pub shown_stretch : ℕ → List ℕ → Block → List ℕ
shown_stretch rev text b = if shows rev b then stretch text b else []

-- the stamp of the visible character at a place
abbrev pub stamp_in : ℕ → List Block → ℕ → Option Stamp
stamp_in rev [] i = None
stamp_in rev (b ∷ bs) i = if nat_lt i (shown_len rev b) then Some (stamp_behind b.first i)
    else stamp_in rev bs (i - shown_len rev b)
