-- The ranks of touched blocks in order: what is between two of them is untouched.
use Rattle.std.proofs.Common.{◌≡◌, ℕ, ◌+◌, ◌-◌, ◌≤◌, ◌<◌, true, inl, inr, List, [], ◌∷◌, length, take}
use Rattle.std.proofs.Common.{Some, slice_get, refl, sym, ap, ◌∙◌, arith, sum_by, get_or}
use Rattle.std.specs.List.{AllByRecursion}
use Rattle.std.specs.List.Sorted.{IsNonDecreasing}
use Rattle.std.proofs.lemmas.Bool.{cases_lt}
use Rattle.std.proofs.lemmas.List.Sums.{sum_by-append, sum_by-cons, sum_by-take-le}
use Rattle.std.proofs.lemmas.Option.{get_or_from_slice_get}
use Rattle.pad_model.proofs.Newer.{split}
use Rattle.ident_index.specs.Index.{Index, IsSound}
use Rattle.blocks.specs.declared.block.Block.{Block}
use Rattle.blocks.specs.Blocks.{IsListed, IsSized, weight_of}
use Rattle.text_history.specs.Slide.{Slide}
use Rattle.text_history.specs.Slides.{since}
use Rattle.block_seq.specs.RowPieces.{is_touched}
use Rattle.block_seq.specs.RowSlides.{IsSlid}
use Rattle.block_seq.proofs.RowGaps.{gap}
use Rattle.block_seq.proofs.RowTouched.{IsUntouched, take_one, untouched-block}

-- a rank is among those from an index on
abbrev pub IsToCome : List ℕ → ℕ → ℕ → Type 0
IsToCome ranks index r = (k : ℕ) × (index ≤ k) × (k < length ranks) × (get_or ranks k r ≡ r)

-- what is behind the rank at an index is among those after it
pub still-to-come : (ranks : List ℕ) (index rank r : ℕ) → slice_get ranks index ≡ Some rank → rank < r →
    IsToCome ranks index r → IsToCome ranks (index + 1) r
still-to-come ranks index rank r e h k = elim (cases_lt index k.0) [
  | inl less ↦ (k.0, omega arith, k.2, k.3)
  | inr most ↦
      let low = k.1 in
      let same : k.0 ≡ index = omega arith in
      let here : rank ≡ r = sym (get_or_from_slice_get ranks index rank r e)
      ∙ ap (λ i. get_or ranks i r) (sym same) ∙ k.3 in
      absurd (omega arith)
]

-- and none of them is before it
pub none-before : (ranks : List ℕ) (index rank r : ℕ) → IsNonDecreasing ranks → slice_get ranks index ≡ Some rank →
    IsToCome ranks index r → rank ≤ r
none-before ranks index rank r sorted e k =
    let rise = sorted index k.0 r k.1 k.2 in
    let here = get_or_from_slice_get ranks index rank r e in
    let there = k.3 in
    omega arith

module _ (slides : List Slide) (bs : List Block) (low rev to : ℕ) (m : Index) (slid : IsSlid slides bs)
    (listed : IsListed m bs) (sound : IsSound m) (ranks : List ℕ) (index next : ℕ)
    (todo : (r : ℕ) (b : Block) → next ≤ r → slice_get bs r ≡ Some b → is_touched (since low slides) b.first ≡ true →
    IsToCome ranks index r) where
  -- between the last block done and the next rank nothing is touched
  pub gap-untouched : low ≤ rev → low ≤ to → (end : ℕ) → ((r : ℕ) → IsToCome ranks index r → end ≤ r) → (r : ℕ) (b : Block) →
      next ≤ r → r < end → slice_get bs r ≡ Some b → IsUntouched rev to b
  gap-untouched old new end far r b l u e =
      split (is_touched (since low slides) b.first)
      (λ t. let high = far r (todo r b l e t) in absurd (omega arith))
      (λ f. (
        untouched-block slides bs low rev m r b slid old listed sound e f,
        untouched-block slides bs low to m r b slid new listed sound e f,
      ))

-- ---- room
pub gap-room : (bs : List Block) (from to low : ℕ) → from ≤ to → low ≤ sum_by (λ b. b.len) (take from bs) →
    low + (sum_by weight_of (take to bs) - sum_by weight_of (take from bs)) ≤ sum_by (λ b. b.len) bs
gap-room bs from to low h small =
    let all = gap bs from to h in
    let most = sum_by-take-le (λ (b : Block). b.len) bs to in
    let weights = all.0 in
    let lens = all.1 in
    let light = all.2 in
    omega arith

pub block-room : (bs : List Block) (rank low : ℕ) (b : Block) → slice_get bs rank ≡ Some b →
    low ≤ sum_by (λ b. b.len) (take rank bs) → low + b.len ≤ sum_by (λ b. b.len) bs
block-room bs rank low b e small =
    let one = ap (sum_by (λ (x : Block). x.len)) (take_one bs rank (rank + 1) b e refl)
    ∙ sum_by-append (λ (x : Block). x.len) (take rank bs) (b ∷ []) in
    let last = sum_by-cons (λ (x : Block). x.len) b [] in
    let most = sum_by-take-le (λ (x : Block). x.len) bs (rank + 1) in
    omega arith

-- there are no more blocks than characters
pub count-small : (bs : List Block) → AllByRecursion IsSized bs → length bs ≤ sum_by (λ b. b.len) bs
count-small [] z = omega arith
count-small (b ∷ bs) z =
    let rest = count-small bs z.1 in
    let long = z.0.0 in
    let sum = sum_by-cons (λ (x : Block). x.len) b bs in
    omega (arith, rest, long, sum)
