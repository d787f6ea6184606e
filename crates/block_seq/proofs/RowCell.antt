-- What the blocks show of one cell.
use Rattle.std.proofs.Common.{◌≡◌, ℕ, zero, suc, ◌+◌, ◌-◌, ◌≤◌, ◌<◌, List, [], ◌∷◌, length, take, drop, Option, Some}
use Rattle.std.proofs.Common.{refl, sym, ap, ap₂, ◌∙◌, arith, slice_get}
use Rattle.pad_model.specs.Cell.{Cell}
use Rattle.pad_model.specs.Character.{next}
use Rattle.pad_model.specs.Stamp.{Stamp}
use Rattle.pad_model.specs.declared.who.Author.{Author}
use Rattle.ident_index.specs.Index.{stamp_behind}
use Rattle.ident_index.proofs.Order.{same_stamps}
use Rattle.blocks.specs.declared.block.Block.{Block}
use Rattle.blocks.specs.Cells.{author_at, run_cells, stretch, block_cells, cells_of}
use Rattle.text_history.proofs.Carrying.{get_back}
use Rattle.block_seq.proofs.BlockCells.{length-stretch, length-run_cells}

-- what the character so far behind the first was inserted after
abbrev pub parent_in : Stamp → Option Stamp → ℕ → Option Stamp
parent_in first p zero = p
parent_in first p (suc i) = Some (stamp_behind first i)

pub parent_first : (first : Stamp) (p : Option Stamp) (i : ℕ) → i ≡ 0 → parent_in first p i ≡ p
parent_first first p zero e = refl
parent_first first p (suc i) e = absurd (omega arith)

pub parent_later : (first : Stamp) (p : Option Stamp) (i : ℕ) → (i ≡ 0 → ⊥) → parent_in first p i
    ≡ Some (stamp_behind first (i - 1))
parent_later first p zero e = absurd (e refl)
parent_later first p (suc i) e = ap (λ k. Some (stamp_behind first k)) (let same : i ≡ suc i - 1 = omega arith in same)

cell_run : (author : Author) (born : ℕ) (died : Option ℕ) (first : Stamp) (p : Option Stamp) (text : List ℕ) (i c : ℕ) →
    slice_get text i ≡ Some c
    → slice_get (run_cells author born died first p text) i
    ≡ Some (record { stamp = stamp_behind first i; parent = parent_in first p i; character = c; author = author; born = born; died = died })
cell_run author born died first p [] i c e = absurd (cc)
cell_run author born died first p (x ∷ text) zero c e =
    let same : x ≡ c = cc in
    ap₂ (λ (s : Stamp) k. Some (let it : Cell =
    record { stamp = s; parent = p; character = k; author = author; born = born; died = died } in it))
    (let here : first ≡ stamp_behind first 0 = same_stamps _ _ (omega arith) refl in here) same
cell_run author born died first p (x ∷ text) (suc i) c e =
    cell_run author born died (next first) (Some first) text i c e
    ∙ ap₂ (λ (s : Stamp) q. Some (let it : Cell =
    record { stamp = s; parent = q; character = c; author = author; born = born; died = died } in it))
    (let here : stamp_behind (next first) i ≡ stamp_behind first (suc i) = same_stamps _ _ (omega arith) refl in here)
    (under i)
  where
    under : (i : ℕ) → parent_in (next first) (Some first) i ≡ Some (stamp_behind first i)
    under zero = ap Some (let here : first ≡ stamp_behind first 0 = same_stamps _ _ (omega arith) refl in here)
    under (suc i) = ap Some (let here : stamp_behind (next first) i ≡ stamp_behind first (suc i) = same_stamps _ _
        (omega arith) refl in here)

get_stretch : (text : List ℕ) (start n i j c : ℕ) → i < n → j ≡ start + i → slice_get text j ≡ Some c →
    slice_get (take n (drop start text)) i ≡ Some c
get_stretch [] start n i j c h is e = absurd (cc)
get_stretch (x ∷ text) zero zero i j c h is e = absurd (omega arith)
get_stretch (x ∷ text) zero (suc n) zero zero c h is e = e
get_stretch (x ∷ text) zero (suc n) zero (suc j) c h is e = absurd (omega arith)
get_stretch (x ∷ text) zero (suc n) (suc i) zero c h is e = absurd (omega arith)
get_stretch (x ∷ text) zero (suc n) (suc i) (suc j) c h is e = get_stretch text 0 n i j c (omega arith) (omega arith) e
get_stretch (x ∷ text) (suc start) n i zero c h is e = absurd (omega arith)
get_stretch (x ∷ text) (suc start) n i (suc j) c h is e = get_stretch text start n i j c h (omega arith) e

-- the cell of a block that so many others of it stand before
pub cell_in_block : (authors : List Author) (text : List ℕ) (b : Block) (offset : ℕ) (s : Stamp) (p : Option Stamp)
    (c : ℕ) (a : Author) → offset < b.len → s ≡ stamp_behind b.first offset → p ≡ parent_in b.first b.parent offset
    → slice_get text (b.start + offset) ≡ Some c → author_at authors b.author ≡ a
    → slice_get (block_cells authors text b) offset
    ≡ Some (record { stamp = s; parent = p; character = c; author = a; born = b.born; died = b.died })
cell_in_block authors text b offset s p c a h is under e who =
    cell_run (author_at authors b.author) b.born b.died b.first b.parent (stretch text b) offset c
    (get_stretch text b.start b.len offset (b.start + offset) c h refl e)
    ∙ ap₂ (λ (k : Stamp) (q : Option Stamp). Some
    (let it : Cell = record { stamp = k; parent = q; character = c; author = author_at authors b.author; born = b.born; died = b.died } in it)) (sym is) (sym under)
    ∙ ap (λ (w : Author). Some (let it : Cell =
    record { stamp = s; parent = p; character = c; author = w; born = b.born; died = b.died } in it)) who

pub cell_behind : (authors : List Author) (text : List ℕ) (b : Block) (bs it : List Block) (i : ℕ) → it ≡ b ∷ bs →
    b.start + b.len ≤ length text → b.len ≤ i → slice_get (cells_of authors text it) i
    ≡ slice_get (cells_of authors text bs) (i - b.len)
cell_behind authors text b bs it i is w h =
    let size = length-run_cells (author_at authors b.author) b.born b.died b.first b.parent (stretch text b)
    ∙ length-stretch text b w in
    ap (λ l. slice_get (cells_of authors text l) i) is ∙ get_back (block_cells authors text b)
    (cells_of authors text bs) i (i - b.len) (omega (arith, size))
