-- Which of two characters of blocks stands first.
use Rattle.std.proofs.Common.{◌≡◌, ℕ, zero, suc, ◌+◌, ◌-◌, ◌≤◌, ◌<◌, inl, inr, Bool, true, false, ◌&&◌, ◌||◌, eqb, ltb}
use Rattle.std.proofs.Common.{leb, List, [], ◌∷◌, ◌++◌, length, drop, Option, Some, refl, sym, ap, ap₂, ◌∙◌, subst}
use Rattle.std.proofs.Common.{arith, slice_get, eqb-true, eq-eqb, lt-ltb, le-ltb, leb-true}
use Rattle.std.specs.List.{AllByRecursion}
use Rattle.std.proofs.lemmas.Bool.{cases_lt, leb-false}
use Rattle.std.proofs.lemmas.List.Folds.{list_any-append}
use Rattle.pad_model.specs.Cell.{Cell, character_of}
use Rattle.pad_model.specs.Character.{next}
use Rattle.pad_model.specs.Legal.{has_stamp}
use Rattle.pad_model.specs.Log.{stands_before}
use Rattle.pad_model.specs.Stamp.{Stamp, same_stamp}
use Rattle.pad_model.specs.declared.who.Author.{Author}
use Rattle.pad_model.proofs.Erase.{in_span, is_erased-stamps_from}
use Rattle.pad_model.proofs.Newer.{split, same_stamp-refl}
use Rattle.ident_index.specs.Index.{Index, IsSound, Covers, stamp_behind}
use Rattle.ident_index.proofs.Order.{same_stamps}
use Rattle.blocks.specs.declared.block.Block.{Block}
use Rattle.blocks.specs.Blocks.{IsListed}
use Rattle.blocks.proofs.Parts.{holds_here}
use Rattle.block_seq.proofs.BlockScan.{one_rank}
use Rattle.blocks.specs.Cells.{author_at, run_cells, stretch, cells_of, IsWithin}
use Rattle.block_seq.proofs.BlockCells.{length-stretch, has-run, has-cells, any_at, any_from, covers-in_span}
use Rattle.block_seq.proofs.BlockCells.{in_span-covers}
use Rattle.block_seq.proofs.RowReads.{apart_from}

module _ (author : Author) (born : ℕ) (died : Option ℕ) (a b : Stamp) (rest : List Cell) where
  has_in : (s : Stamp) (p : Option Stamp) (text : List ℕ) → has_stamp character_of (run_cells author born died s p text
      ++ rest) b ≡ (in_span s (length text) b || has_stamp character_of rest b)
  has_in s p text =
      list_any-append (λ (x : Cell). same_stamp x.stamp b) (run_cells author born died s p text) rest
      ∙ ap (λ t. t || has_stamp character_of rest b) (has-run author born died s p text b
      ∙ is_erased-stamps_from s (length text) b)

  stands_misses : (s : Stamp) (p : Option Stamp) (text : List ℕ) → (Covers s (length text) a → ⊥) →
      stands_before character_of (run_cells author born died s p text ++ rest) a b ≡ stands_before character_of rest a b
  stands_misses s p [] none = refl
  stands_misses s p (c ∷ text) none =
      rw (apart_from 0 author born died a rest s (length text) none)
      (stands_misses (next s) (Some s) text (λ k. none (k.0, omega arith, omega arith)))

  stands_hits : (s : Stamp) (p : Option Stamp) (text : List ℕ) (o n : ℕ) → a ≡ stamp_behind s o → o < length text →
      n + o ≡ length text →
      stands_before character_of (run_cells author born died s p text ++ rest) a b
      ≡ (in_span a n b || has_stamp character_of rest b)
  stands_hits s p [] o n is h size = absurd (omega arith)
  stands_hits s p (c ∷ text) zero n is h size =
      let same : s ≡ a = same_stamps s a (let e : a.counter ≡ s.counter + 0 = ap (λ (k : Stamp). k.counter) is in
      omega (arith, e)) (sym (ap (λ (k : Stamp). k.replica) is)) in
      let here : same_stamp s a ≡ true = subst (λ (k : Stamp). same_stamp s k ≡ true) same (same_stamp-refl s) in
      let whole : suc (length text) ≡ n = omega arith in
      rw here
      (ap (λ k. same_stamp k b || has_stamp character_of (run_cells author born died (next s) (Some s) text ++ rest) b)
      (sym same)
      ∙ has_in s p (c ∷ text)
      ∙ ap₂ (λ k m. in_span k m b || has_stamp character_of rest b) same whole)
  stands_hits s p (c ∷ text) (suc o) n is h size =
      let counter : a.counter ≡ s.counter + suc o = ap (λ (k : Stamp). k.counter) is in
      let apart = apart_from 0 author born died a rest s 0 (λ k. omega (arith, k.2, counter)) in
      rw apart (stands_hits (next s) (Some s) text o n (is ∙ same_stamps _ _ (omega arith) refl) (omega arith)
      (omega arith))

-- from a block on, given where the first of the two is
stands-blocks : (authors : List Author) (text : List ℕ) (bs : List Block) (r o n : ℕ) (x : Block) (a b : Stamp) →
    AllByRecursion (IsWithin (length authors) (length text)) bs → slice_get bs r ≡ Some x
    → a ≡ stamp_behind x.first o → o < x.len → n + o ≡ x.len → ((i : ℕ) (y : Block) → i < r → slice_get bs i ≡ Some y →
    Covers y.first y.len a → ⊥)
    → stands_before character_of (cells_of authors text bs) a b
    ≡ (in_span a n b || has_stamp character_of (cells_of authors text (drop (suc r) bs)) b)
stands-blocks authors text [] r o n x a b w e is h size none = absurd (cc)
stands-blocks authors text (y ∷ bs) zero o n x a b w e is h size none =
    let same : y ≡ x = cc in
    let all = length-stretch text y w.0.1 in
    let len : y.len ≡ x.len = ap (λ (z : Block). z.len) same in
    stands_hits (author_at authors y.author) y.born y.died a b (cells_of authors text bs) y.first y.parent
    (stretch text y) o n (subst (λ (z : Block). a ≡ stamp_behind z.first o) (sym same) is) (omega (arith, all, len))
    (omega (arith, all, len))
stands-blocks authors text (y ∷ bs) (suc r) o n x a b w e is h size none =
    let all = length-stretch text y w.0.1 in
    stands_misses (author_at authors y.author) y.born y.died a b (cells_of authors text bs) y.first y.parent
    (stretch text y) (λ c. none 0 y (omega arith) refl (subst (λ k. Covers y.first k a) all c))
    ∙ stands-blocks authors text bs r o n x a b w.1 e is h size (λ i z l. none (suc i) z (omega arith))

get_drop : {A : Type 0} (xs : List A) (n i j : ℕ) → j ≡ n + i → slice_get (drop n xs) i ≡ slice_get xs j
get_drop xs zero i j e = ap (slice_get xs) (let same : i ≡ j = omega (arith, e) in same)
get_drop [] (suc n) i j e = refl
get_drop (x ∷ xs) (suc n) i zero e = absurd (omega arith)
get_drop (x ∷ xs) (suc n) i (suc j) e = get_drop xs n i j (omega arith)

within_drop : (m k n : ℕ) (bs : List Block) → AllByRecursion (IsWithin m k) bs → AllByRecursion (IsWithin m k)
    (drop n bs)
within_drop m k zero bs w = w
within_drop m k (suc n) [] w = tt
within_drop m k (suc n) (b ∷ bs) w = within_drop m k n bs w.1

-- whether the second is in the blocks behind the first's
has_later : (authors : List Author) (text : List ℕ) (bs : List Block) (n s : ℕ) (y : Block) (b : Stamp) →
    AllByRecursion (IsWithin (length authors) (length text)) bs → n ≤ s → slice_get bs s ≡ Some y →
    Covers y.first y.len b
    → has_stamp character_of (cells_of authors text (drop n bs)) b ≡ true
has_later authors text bs n s y b w l e c =
    has-cells authors text (drop n bs) b (within_drop (length authors) (length text) n bs w)
    ∙ any_from (λ (z : Block). in_span z.first z.len b) (drop n bs) (s - n) y (get_drop bs n (s - n) s (omega arith)
    ∙ e) (covers-in_span y.first y.len b c)

none_later : (authors : List Author) (text : List ℕ) (bs : List Block) (n : ℕ) (b : Stamp) →
    AllByRecursion (IsWithin (length authors) (length text)) bs →
    ((i : ℕ) (y : Block) → n ≤ i → slice_get bs i ≡ Some y → Covers y.first y.len b → ⊥)
    → has_stamp character_of (cells_of authors text (drop n bs)) b ≡ false
none_later authors text bs n b w none =
    split (has_stamp character_of (cells_of authors text (drop n bs)) b)
    (λ e.
    let found = any_at (λ (z : Block). in_span z.first z.len b) (drop n bs)
    (sym (has-cells authors text (drop n bs) b (within_drop (length authors) (length text) n bs w)) ∙ e) in
    absurd (none (n + found.0) found.1 (omega arith) (sym (get_drop bs n found.0 (n + found.0) refl) ∙ found.2)
    (in_span-covers found.1.first found.1.len b found.3)))
    (λ e. e)

or_true : (t : Bool) → (t || true) ≡ true
or_true true = refl
or_true false = refl

not_in_span : (a : Stamp) (n : ℕ) (b : Stamp) → (Covers a n b → ⊥) → in_span a n b ≡ false
not_in_span a n b none = split (in_span a n b) (λ e. absurd (none (in_span-covers a n b e))) (λ e. e)

-- the first stands before the second where its block does, or within one block
pub stands-spots : (authors : List Author) (text : List ℕ) (bs : List Block) (r o s p : ℕ) (x y : Block) (a b : Stamp) →
    AllByRecursion (IsWithin (length authors) (length text)) bs
    → slice_get bs r ≡ Some x → a ≡ stamp_behind x.first o → o < x.len → slice_get bs s ≡ Some y →
    b ≡ stamp_behind y.first p → p < y.len
    → ((i : ℕ) (z : Block) → slice_get bs i ≡ Some z → Covers z.first z.len a → i ≡ r) →
    ((i : ℕ) (z : Block) → slice_get bs i ≡ Some z → Covers z.first z.len b → i ≡ s)
    → (ltb r s || (eqb r s && leb o p)) ≡ stands_before character_of (cells_of authors text bs) a b
stands-spots authors text bs r o s p x y a b w e is h f js k one_a one_b =
    let ac : a.counter ≡ x.first.counter + o = ap (λ (z : Stamp). z.counter) is in
    let ar : a.replica ≡ x.first.replica = ap (λ (z : Stamp). z.replica) is in
    let bc : b.counter ≡ y.first.counter + p = ap (λ (z : Stamp). z.counter) js in
    let br : b.replica ≡ y.first.replica = ap (λ (z : Stamp). z.replica) js in
    let cov : Covers y.first y.len b = (sym br, omega arith, omega arith) in
    let flat = stands-blocks authors text bs r o (x.len - o) x a b w e is h (omega arith)
    (λ i z l g c. (let same = one_a i z g c in omega (arith, same))) in
    elim (cases_lt r s) [
      | inl less ↦ rw (lt-ltb r s less) (sym (flat ∙ ap (λ t. in_span a (x.len - o) b || t)
          (has_later authors text bs (suc r) s y b w (omega arith) f cov) ∙ or_true _))
      | inr more ↦
          let later = none_later authors text bs (suc r) b w
          (λ i z l g c. (let same = one_b i z g c in omega (arith, same))) in
          split (eqb r s)
          (λ q.
          let same_rank : r ≡ s = eqb-true r s q in
          let same : x ≡ y = cc (e, f, same_rank) in
          let first : x.first ≡ y.first = ap (λ (z : Block). z.first) same in
          let low : x.first.counter ≡ y.first.counter = ap (λ (z : Stamp). z.counter) first in
          let own : x.first.replica ≡ y.first.replica = ap (λ (z : Stamp). z.replica) first in
          let size : x.len ≡ y.len = ap (λ (z : Block). z.len) same in
          rw (le-ltb r s more, q)
          (split (leb o p)
          (λ t. let order = leb-true o p t in
          rw t (sym (flat ∙ ap₂ (λ u v. u || v)
          (covers-in_span a (x.len - o) b (ar ∙ own ∙ sym br, omega arith, omega arith)) later)))
          (λ t. let order = leb-false o p t in
          rw t (sym (flat ∙ ap₂ (λ u v. u || v) (not_in_span a (x.len - o) b (λ c. (let up = c.1 in omega arith)))
          later)))))
          (λ q. rw (le-ltb r s more, q)
          (sym (flat ∙ ap₂ (λ u v. u || v)
          (not_in_span a (x.len - o) b (λ c.
          (let up = c.1 in
          let top = c.2 in
          let same : r ≡ s = one_b r x e (sym ar ∙ c.0, omega arith, omega arith) in
          let yes = eq-eqb r s same in absurd (cc)))) later)))
    ]

-- one block alone covers a stamp
pub only_rank : (m : Index) (bs : List Block) (r : ℕ) (x : Block) (a : Stamp) → IsListed m bs → IsSound m →
    slice_get bs r ≡ Some x → Covers x.first x.len a
    → (i : ℕ) (z : Block) → slice_get bs i ≡ Some z → Covers z.first z.len a → i ≡ r
only_rank m bs r x a k sound e c i z f d =
    let same = sound.apart a z.first x.first (holds_here m bs i z a k f d) (holds_here m bs r x a k e c) in
    elim (cases_lt i r) [
      | inl less ↦ absurd (one_rank bs i r z x k.apart f e less same)
      | inr more ↦ elim (cases_lt r i) [
        | inl less ↦ absurd (one_rank bs r i x z k.apart e f less (sym same))
        | inr least ↦ omega arith
      ]
    ]
