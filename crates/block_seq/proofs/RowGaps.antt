-- A walk over the ranks of touched blocks: what lies between two of them, and the block at a rank.
use Rattle.std.proofs.Common.{◌≡◌, ℕ, zero, suc, ◌+◌, ◌-◌, ◌≤◌, ◌<◌, List, [], ◌∷◌, ◌++◌, take}
use Rattle.std.proofs.Common.{drop, flat_map, Some, slice_get, refl, sym, ap, ◌∙◌, arith, sum_by}
use Rattle.std.proofs.Common.{append-nil}
use Rattle.std.specs.List.{AllByRecursion}
use Rattle.std.proofs.lemmas.List.Concat.{flat_map-append}
use Rattle.std.proofs.lemmas.List.Sums.{sum_by-append, sum_by-cons}
use Rattle.pad_model.specs.Pieces.{fewest, old_len}
use Rattle.pad_model.specs.declared.piece.Piece.{Piece}
use Rattle.pad_model.specs.declared.piece.Piece.TheVariants.{Keep}
use Rattle.pad_model.specs.declared.who.Author.{Author}
use Rattle.pad_model.proofs.Pieces.{fewest-append}
use Rattle.blocks.specs.declared.block.Block.{Block}
use Rattle.blocks.specs.Blocks.{IsSized, weight_of}
use Rattle.blocks.proofs.Entries.{each_get, weights_small}
use Rattle.block_seq.specs.PieceLists.{block_pieces, with_pieces}
use Rattle.block_seq.specs.RowPieces.{kept_pieces}
use Rattle.block_seq.proofs.PieceLists.{fewest-more, sum-withs}
use Rattle.block_seq.proofs.RowPieces.{block-small}
use Rattle.block_seq.proofs.RowTouched.{IsUntouched, kept-blocks, kept-some, take_one}

-- what lies from a rank to another
each-between : {A : Type 0} (P : A → Type 0) (xs : List A) (from to : ℕ)
    → ((r : ℕ) (x : A) → from ≤ r → r < to → slice_get xs r ≡ Some x → P x) → AllByRecursion P (drop from (take to xs))
each-between P [] zero zero h = tt
each-between P [] zero (suc to) h = tt
each-between P [] (suc from) zero h = tt
each-between P [] (suc from) (suc to) h = tt
each-between P (x ∷ xs) zero zero h = tt
each-between P (x ∷ xs) (suc from) zero h = tt
each-between P (x ∷ xs) zero (suc to) h = (
  h 0 x (omega arith) (omega arith) refl,
  each-between P xs zero to (λ r y l u e. h (suc r) y (omega arith) (omega arith) e),
)
each-between P (x ∷ xs) (suc from) (suc to) h =
    each-between P xs from to (λ r y l u e. h (suc r) y (omega arith) (omega arith) e)

between : {A : Type 0} (xs : List A) (from to : ℕ) → from ≤ to → take to xs ≡ take from xs ++ drop from (take to xs)
between [] zero zero h = refl
between [] zero (suc to) h = refl
between [] (suc from) zero h = absurd (omega arith)
between [] (suc from) (suc to) h = refl
between (x ∷ xs) zero zero h = refl
between (x ∷ xs) zero (suc to) h = refl
between (x ∷ xs) (suc from) zero h = absurd (omega arith)
between (x ∷ xs) (suc from) (suc to) h = ap (λ l. x ∷ l) (between xs from to (omega arith))

sum-kept : (n : ℕ) → sum_by old_len (kept_pieces n) ≡ n
sum-kept zero = refl
sum-kept (suc n) =
    ap (sum_by old_len) (kept-some (suc n) (omega arith)) ∙ sum_by-cons old_len (Keep (suc n)) []
    ∙ (let same : suc n + 0 ≡ suc n = omega arith in same)

-- weights before a rank rise with it
pub weights-rise : (bs : List Block) (from to : ℕ) → from ≤ to → sum_by weight_of (take from bs)
    ≤ sum_by weight_of (take to bs)
weights-rise bs from to h =
    let all = ap (sum_by weight_of) (between bs from to h)
    ∙ sum_by-append weight_of (take from bs) (drop from (take to bs)) in
    omega (arith, all)

-- the weights and the lengths from a rank to another
pub gap : (bs : List Block) (from to : ℕ) → from ≤ to
    → (sum_by weight_of (take to bs) ≡ sum_by weight_of (take from bs) + sum_by weight_of (drop from (take to bs)))
    × (sum_by (λ b. b.len) (take to bs) ≡ sum_by (λ b. b.len) (take from bs) + sum_by (λ b. b.len) (drop from (take to bs)))
    × (sum_by weight_of (drop from (take to bs)) ≤ sum_by (λ b. b.len) (drop from (take to bs)))
gap bs from to h = (
  ap (sum_by weight_of) (between bs from to h) ∙ sum_by-append weight_of (take from bs) (drop from (take to bs)),
  ap (sum_by (λ (b : Block). b.len)) (between bs from to h)
      ∙ sum_by-append (λ (b : Block). b.len) (take from bs) (drop from (take to bs)),
  weights_small (drop from (take to bs)),
)

module _ (rev to : ℕ) (authors : List Author) (text : List ℕ) (bs : List Block) where
  -- the pieces of the blocks before a rank, and no more than these are long
  pub record IsSoFar (pieces : List Piece) (next : ℕ) : Type 0 where
    pub is : pieces ≡ fewest (flat_map (block_pieces rev to authors text) (take next bs))
    pub small : sum_by old_len pieces ≤ sum_by (λ b. b.len) (take next bs)

  pub start-so-far : (pieces : List Piece) → pieces ≡ [] → IsSoFar pieces 0
  start-so-far pieces e = record { is = e; small = (let none = ap (sum_by old_len) e in omega (arith, none)) }

  -- past blocks that nothing touched
  pub pass-so-far : (pieces made : List Piece) (from end : ℕ) → IsSoFar pieces from → from ≤ end →
      AllByRecursion IsSized bs
      → ((r : ℕ) (b : Block) → from ≤ r → r < end → slice_get bs r ≡ Some b → IsUntouched rev to b)
      → made ≡ with_pieces pieces (kept_pieces (sum_by weight_of (take end bs) - sum_by weight_of (take from bs)))
      → IsSoFar made end
  pass-so-far pieces made from end so_far order sized untouched e =
      let mid = drop from (take end bs) in
      let split_at = between bs from end order in
      let weights : sum_by weight_of (take end bs) ≡ sum_by weight_of (take from bs) + sum_by weight_of mid =
      ap (sum_by weight_of) split_at ∙ sum_by-append weight_of (take from bs) mid in
      let lens : sum_by (λ (b : Block). b.len) (take end bs) ≡ sum_by (λ (b : Block). b.len) (take from bs)
      + sum_by (λ (b : Block). b.len) mid =
      ap (sum_by (λ (b : Block). b.len)) split_at ∙ sum_by-append (λ (b : Block). b.len) (take from bs) mid in
      let n = sum_by weight_of (take end bs) - sum_by weight_of (take from bs) in
      let gap : sum_by weight_of mid ≡ n = omega arith in
      let front = flat_map (block_pieces rev to authors text) (take from bs) in
      let all = each-between IsSized bs from end (λ r b l u g. each_get IsSized bs r b sized g) in
      let kept = kept-blocks rev to authors text mid (each-between (IsUntouched rev to) bs from end untouched) all
      ∙ ap (λ k. fewest (kept_pieces k)) gap in
      let light = weights_small mid in
      let sum = ap (sum_by old_len) e ∙ sum-withs pieces (kept_pieces n) in
      let size = sum-kept n in
      let low = so_far.small in
      record {
        is = e ∙ ap (λ l. with_pieces l (kept_pieces n)) so_far.is ∙ sym (fewest-more front (kept_pieces n))
            ∙ sym (fewest-append front (flat_map (block_pieces rev to authors text) mid) (kept_pieces n) kept)
            ∙ ap fewest (sym (flat_map-append (block_pieces rev to authors text) (take from bs) mid))
            ∙ ap (λ l. fewest (flat_map (block_pieces rev to authors text) l)) (sym split_at);
        small = omega (arith, sum, size, low, lens, light, gap);
      }

  -- past one block
  pub step-so-far : (pieces made : List Piece) (rank next : ℕ) (b : Block) → IsSoFar pieces rank →
      slice_get bs rank ≡ Some b → next ≡ rank + 1 → made ≡ with_pieces pieces (block_pieces rev to authors text b)
      → IsSoFar made next
  step-so-far pieces made rank next b so_far g is e =
      let one = take_one bs rank next b g is in
      let front = flat_map (block_pieces rev to authors text) (take rank bs) in
      let sum = ap (sum_by old_len) e ∙ sum-withs pieces (block_pieces rev to authors text b) in
      let size = block-small rev to authors text b in
      let lens = ap (sum_by (λ (x : Block). x.len)) one ∙ sum_by-append (λ (x : Block). x.len) (take rank bs) (b ∷ []) in
      let last = sum_by-cons (λ (x : Block). x.len) b [] in
      let low = so_far.small in
      record {
        is = e ∙ ap (λ l. with_pieces l (block_pieces rev to authors text b)) so_far.is
            ∙ sym (fewest-more front (block_pieces rev to authors text b))
            ∙ ap fewest (ap (λ l. front ++ l) (sym (append-nil (block_pieces rev to authors text b)))
            ∙ sym (flat_map-append (block_pieces rev to authors text) (take rank bs) (b ∷ [])))
            ∙ ap (λ l. fewest (flat_map (block_pieces rev to authors text) l)) (sym one);
        small = omega (arith, sum, size, low, lens, last);
      }
