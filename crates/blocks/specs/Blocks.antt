-- A row of blocks, and the index that finds them.
use Rattle.std.specs.Prelude.{◌≡◌, ℕ, zero, suc, ◌+◌, ◌-◌, ◌*◌, ◌≤◌, ◌<◌, List, [], ◌∷◌, ◌++◌, length, take, drop, map}
use Rattle.std.specs.Prelude.{sum_by, Option, Some, None, Bool, nat_lt, if◌then◌else◌, is_none, slice_get, IsSomeAnd}
use Rattle.std.specs.FinMap.{get}
use Rattle.std.specs.List.{AllByRecursion}
use Rattle.std.specs.Ordering.{eq_by_cmp}
use Rattle.pad_model.specs.Stamp.{Stamp}
use Rattle.pad_model.specs.declared.limits.TheConstants.{MAX_CHARACTERS, MAX_COUNTER}
use Rattle.ident_index.specs.Index.{Index, stamp_cmp, stamp_behind, Holds}
use Rattle.ident_index.specs.declared.place.BlockEntry.{BlockEntry}
use Rattle.blocks.specs.declared.block.Block.{Block}
use Rattle.blocks.specs.declared.block.TheConstants.{LAST_LABEL}
use Rattle.blocks.specs.declared.label.Window.{Window}

-- how many characters of a block are alive
abbrev pub weight_of : Block → ℕ
weight_of b = if is_none b.died then b.len else 0

-- what the index keeps of a block
abbrev pub entry : Block → BlockEntry
entry b = record { len = b.len; label = b.label }

-- what the index keeps of the first block that begins with a stamp
abbrev pub entry_of : List Block → Stamp → Option BlockEntry
entry_of [] s = None
entry_of (b ∷ bs) s = if eq_by_cmp stamp_cmp s b.first then Some (entry b) else entry_of bs s

-- no two blocks begin with the same stamp
abbrev pub IsApart : List Block → Type 0
IsApart [] = Unit {0}
IsApart (b ∷ bs) = (entry_of bs b.first ≡ None) × IsApart bs

-- a block is not empty, its counters are within the limit, and its stretch is within the longest text
abbrev pub IsSized : Block → Type 0
IsSized b = (1 ≤ b.len) × (b.first.counter + b.len ≤ MAX_COUNTER + 1)
    × (b.start + b.len ≤ MAX_CHARACTERS)

-- the labels rise from low to high, by at least a step each time
abbrev pub Rises : ℕ → ℕ → List Block → ℕ → Type 0
Rises step low [] high = low + step ≤ high
Rises step low (b ∷ bs) high = (low + step ≤ b.label) × Rises step b.label bs high

-- the index has exactly these blocks, each once, and none is empty or too large
pub record IsListed (m : Index) (bs : List Block) : Type 0 where
  pub index : (s : Stamp) → get m s ≡ entry_of bs s
  pub apart : IsApart bs
  pub sized : AllByRecursion IsSized bs
  pub small : sum_by (λ b. b.len) bs ≤ MAX_CHARACTERS

-- the index has exactly these blocks, and their labels rise
pub record IsKept (m : Index) (bs : List Block) : Type 0 where
  pub listed : IsListed m bs
  pub rises : Rises 1 0 bs LAST_LABEL

-- the label before a rank, or low if there is none
abbrev pub below : ℕ → List Block → ℕ → ℕ
below low [] i = low
below low (b ∷ bs) zero = low
below low (b ∷ bs) (suc i) = below b.label bs i

-- the label at a rank, or high if there is none
abbrev pub above : List Block → ℕ → ℕ → ℕ
above [] i high = high
above (b ∷ bs) zero high = b.label
above (b ∷ bs) (suc i) high = above bs i high

-- whether no label is free at a rank
abbrev pub is_full : List Block → ℕ → Bool
is_full bs rank = nat_lt (above bs rank LAST_LABEL) (below 0 bs rank + 2)

-- the blocks, with labels that rise by one step each for the first n
abbrev pub spread : ℕ → ℕ → ℕ → List Block → List Block
spread step low zero bs = bs
spread step low (suc n) [] = []
spread step low (suc n) (b ∷ bs) = record b { label = low + step } ∷ spread step (low + step) n bs

-- the blocks, with labels that rise by the window's step in the window
abbrev pub respaced : Window → List Block → List Block
respaced w bs = take w.from bs ++ spread w.step w.low (w.to - w.from) (drop w.from bs)

-- a window around a rank, whose new labels fit between the labels on both sides of it
pub record IsWindow (bs : List Block) (rank : ℕ) (w : Window) : Type 0 where
  pub before : w.from ≤ rank
  pub behind : rank ≤ w.to
  pub within : w.to ≤ length bs
  pub low : w.low ≡ below 0 bs w.from
  pub fits : w.low + w.step * (w.to - w.from + 1) ≤ above bs w.to LAST_LABEL

-- a block without its label
abbrev pub unlabelled : Block → Block
unlabelled b = record b { label = 0 }

-- the blocks without their labels
abbrev pub without_labels : List Block → List Block
without_labels bs = map unlabelled bs

-- a character is in the block of this rank, at this offset from its first
abbrev pub IsSpot : List Block → Stamp → ℕ → ℕ → Type 0
IsSpot bs s rank offset = IsSomeAnd (slice_get bs rank)
    (λ b. (s ≡ stamp_behind b.first offset) × (offset < b.len))

-- the part of a block before an offset
abbrev pub left_part : Block → ℕ → Block
left_part b offset = record b { len = offset }

-- the part of a block from an offset on
abbrev pub right_part : Block → ℕ → ℕ → Block
right_part b offset label = record b {
  first = stamp_behind b.first offset;
  parent = Some (stamp_behind b.first (offset - 1));
  start = b.start + offset;
  len = b.len - offset;
  label = label;
}

-- if a block of new holds a stamp, the block of old with the same first stamp holds it too
abbrev pub HoldsNoMore : Index → Index → Type 0
HoldsNoMore old new = (first s : Stamp) → Holds new first s → Holds old first s

-- a block that holds the stamp begins with it
abbrev pub IsEdge : Index → Stamp → Type 0
IsEdge m s = (first : Stamp) → Holds m first s → first ≡ s

-- each edge of old is one of new
abbrev pub KeepsEdges : Index → Index → Type 0
KeepsEdges old new = (s : Stamp) → IsEdge old s → IsEdge new s
