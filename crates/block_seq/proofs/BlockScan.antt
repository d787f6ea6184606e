-- RGA's scan over blocks: one that passes the first character of a block passes the block.
use Rattle.std.proofs.Common.{◌≡◌, ℕ, zero, suc, ◌+◌, ◌-◌, ◌≤◌, ◌<◌, inl, inr, Bool, true, false, cond, List, [], ◌∷◌}
use Rattle.std.proofs.Common.{◌++◌, length, take, drop, Option, Some, None, refl, sym, ap, ◌∙◌, subst, arith, slice_get}
use Rattle.std.proofs.Common.{append_assoc, one-add}
use Rattle.std.specs.List.{AllByRecursion}
use Rattle.pad_model.specs.Cell.{Cell, character_of}
use Rattle.pad_model.specs.Character.{next}
use Rattle.pad_model.specs.Scan.{scan_from, scan_behind}
use Rattle.pad_model.specs.Stamp.{Stamp, newer, same_stamp}
use Rattle.pad_model.specs.declared.who.Author.{Author}
use Rattle.pad_model.proofs.Newer.{split, newer-trans, newer_of_counter, same_stamp-refl, same_stamp-true}
use Rattle.ident_index.specs.Index.{Index, Covers, IsSound, stamp_behind}
use Rattle.ident_index.proofs.Order.{same_stamps}
use Rattle.blocks.specs.declared.block.Block.{Block}
use Rattle.blocks.specs.Blocks.{IsSized, IsListed, IsApart, IsEdge}
use Rattle.std.proofs.lemmas.Bool.{cases_lt}
use Rattle.blocks.specs.Cells.{author_at, run_cells, stretch, block_cells, cells_of, IsWithin}
use Rattle.blocks.proofs.Entries.{differs}
use Rattle.blocks.proofs.Parts.{holds_here}
use Rattle.block_seq.specs.Rows.{IsBehind, StartsAt, IsPlaceFor, passes}
use Rattle.block_seq.proofs.BlockCells.{length-stretch}

newer-next : (s first : Stamp) → newer s first ≡ true → newer (next s) first ≡ true
newer-next s first h = newer-trans (next s) s first (newer_of_counter (next s) s (omega arith)) h

module _ (author : Author) (born : ℕ) (died : Option ℕ) (first : Stamp) (new rest : List Cell) where
  -- a scan that passes a run's first character passes the run
  pub scan_passes : (s : Stamp) (q : Option Stamp) (text : List ℕ) → newer s first ≡ true →
      scan_from character_of first new (run_cells author born died s q text ++ rest)
      ≡ run_cells author born died s q text ++ scan_from character_of first new rest
  scan_passes s q [] h = refl
  scan_passes s q (c ∷ text) h =
      rw h (ap (λ l. (let it : Cell = record
      { stamp = s; parent = q; character = c; author = author; born = born; died = died } in it) ∷ l)
      (scan_passes (next s) (Some s) text (newer-next s first h)))

  scan_stops : (s : Stamp) (q : Option Stamp) (text : List ℕ) → 1 ≤ length text → newer s first ≡ false →
      scan_from character_of first new (run_cells author born died s q text ++ rest) ≡ new
      ++ (run_cells author born died s q text ++ rest)
  scan_stops s q [] l h = absurd (omega arith)
  scan_stops s q (c ∷ text) l h = rw h refl

  -- a search for a parent that ends a run goes on behind it
  run_ends : (p s : Stamp) (q : Option Stamp) (x : ℕ) (xs : List ℕ) → p ≡ stamp_behind s (length xs) →
      scan_behind character_of p first new (run_cells author born died s q (x ∷ xs) ++ rest)
      ≡ run_cells author born died s q (x ∷ xs) ++ scan_from character_of first new rest
  run_ends p s q x [] is =
      let same : s ≡ p = same_stamps s p (let e : p.counter ≡ s.counter + 0 = ap (λ (k : Stamp). k.counter) is in
      omega (arith, e)) (sym (ap (λ (k : Stamp). k.replica) is)) in
      let here : same_stamp s p ≡ true = subst (λ (k : Stamp). same_stamp s k ≡ true) same (same_stamp-refl s) in
      rw here refl
  run_ends p s q x (y ∷ ys) is =
      let counter : p.counter ≡ s.counter + suc (length ys) = ap (λ (k : Stamp). k.counter) is in
      let apart : same_stamp s p ≡ false =
      split (same_stamp s p) (λ e. let c = ap (λ (k : Stamp). k.counter) (same_stamp-true s p e) in
      absurd (omega arith)) (λ e. e) in
      rw apart
      (ap (λ l. (let it : Cell = record { stamp = s; parent = q; character = x; author = author; born = born; died = died } in it) ∷ l)
      (run_ends p (next s) (Some s) y ys (is ∙ same_stamps _ _ (omega arith) refl)))

  run_ends_at : (p s : Stamp) (q : Option Stamp) (text : List ℕ) (n : ℕ) → length text ≡ n → 1 ≤ n →
      p ≡ stamp_behind s (n - 1) →
      scan_behind character_of p first new (run_cells author born died s q text ++ rest)
      ≡ run_cells author born died s q text ++ scan_from character_of first new rest
  run_ends_at p s q [] n l h is = absurd (omega arith)
  run_ends_at p s q (x ∷ xs) n l h is = run_ends p s q x xs (is ∙ same_stamps _ _ (omega arith) refl)

  -- and passes a run that doesn't have it
  run_misses : (p s : Stamp) (q : Option Stamp) (text : List ℕ) → (Covers s (length text) p → ⊥) →
      scan_behind character_of p first new (run_cells author born died s q text ++ rest)
      ≡ run_cells author born died s q text ++ scan_behind character_of p first new rest
  run_misses p s q [] none = refl
  run_misses p s q (x ∷ xs) none =
      let apart : same_stamp s p ≡ false = split (same_stamp s p)
      (λ e. let same = same_stamp-true s p e in
      let counter = ap (λ (k : Stamp). k.counter) same in
      absurd (none (ap (λ (k : Stamp). k.replica) same, omega arith, omega arith))) (λ e. e) in
      rw apart
      (ap (λ l. (let it : Cell = record { stamp = s; parent = q; character = x; author = author; born = born; died = died } in it) ∷ l)
      (run_misses p (next s) (Some s) xs (λ c. none (c.0, omega arith, omega arith))))

module _ (authors : List Author) (text : List ℕ) (first : Stamp) (new : List Cell) where
  -- the scan over blocks, one step a block
  pub scan_cells : (bs : List Block) → AllByRecursion (IsWithin (length authors) (length text)) bs →
      AllByRecursion IsSized bs →
      scan_from character_of first new (cells_of authors text bs) ≡ cells_of authors text (take (passes first bs) bs)
      ++ (new ++ cells_of authors text (drop (passes first bs) bs))
  scan_cells [] w z = sym (Rattle.std.proofs.Common.append-nil new)
  scan_cells (b ∷ bs) w z =
      split (newer b.first first)
      (λ e. rw (e, one-add)
      (scan_passes (author_at authors b.author) b.born b.died first new (cells_of authors text bs) b.first b.parent
      (stretch text b) e
      ∙ ap (λ l. block_cells authors text b ++ l) (scan_cells bs w.1 z.1)
      ∙ sym (append_assoc (block_cells authors text b) (cells_of authors text (take (passes first bs) bs))
      (new ++ cells_of authors text (drop (passes first bs) bs)))))
      (λ e. rw e
      (scan_stops (author_at authors b.author) b.born b.died first new (cells_of authors text bs) b.first b.parent
      (stretch text b)
      (let l = length-stretch text b w.0.1 in let s = z.0.0 in omega (arith, l, s)) e))

  behind_cells : (p : Stamp) (bs : List Block) (at k : ℕ) (b : Block) →
      AllByRecursion (IsWithin (length authors) (length text)) bs → AllByRecursion IsSized bs → slice_get bs at
      ≡ Some b → p ≡ stamp_behind b.first (b.len - 1)
      → ((i : ℕ) (x : Block) → i < at → slice_get bs i ≡ Some x → Covers x.first x.len p → ⊥) → k ≡ suc at
      + passes first (drop (suc at) bs)
      → scan_behind character_of p first new (cells_of authors text bs) ≡ cells_of authors text (take k bs)
      ++ (new ++ cells_of authors text (drop k bs))
  behind_cells p [] at k b w z e is none place = absurd (cc)
  behind_cells p (x ∷ bs) zero zero b w z e is none place = absurd (omega arith)
  behind_cells p (x ∷ bs) (suc at) zero b w z e is none place = absurd (omega arith)
  behind_cells p (x ∷ bs) zero (suc k) b w z e is none place =
      let same : x ≡ b = cc in
      let ends : p ≡ stamp_behind x.first (x.len - 1) = subst (λ (y : Block). p ≡ stamp_behind y.first (y.len - 1))
      (sym same) is in
      let here : passes first bs ≡ k = omega (arith, place) in
      run_ends_at (author_at authors x.author) x.born x.died first new (cells_of authors text bs) p x.first x.parent
      (stretch text x) x.len (length-stretch text x w.0.1) z.0.0 ends
      ∙ ap (λ l. block_cells authors text x ++ l)
      (scan_cells bs w.1 z.1 ∙ ap (λ n. cells_of authors text (take n bs) ++ (new ++ cells_of authors text (drop n bs)))
      here)
      ∙ sym (append_assoc (block_cells authors text x) (cells_of authors text (take k bs))
      (new ++ cells_of authors text (drop k bs)))
  behind_cells p (x ∷ bs) (suc at) (suc k) b w z e is none place =
      run_misses (author_at authors x.author) x.born x.died first new (cells_of authors text bs) p x.first x.parent
      (stretch text x)
      (λ c. none 0 x (omega arith) refl (subst (λ n. Covers x.first n p) (length-stretch text x w.0.1) c))
      ∙ ap (λ l. block_cells authors text x ++ l)
      (behind_cells p bs at k b w.1 z.1 e is (λ i y h. none (suc i) y (omega arith)) (omega (arith, place)))
      ∙ sym (append_assoc (block_cells authors text x) (cells_of authors text (take k bs))
      (new ++ cells_of authors text (drop k bs)))

-- the place of a run
pub place_at_start : (first : Stamp) (bs : List Block) (k : ℕ) → AllByRecursion IsSized bs →
    k ≡ 0 + passes first (drop 0 bs) → IsPlaceFor None first bs k
place_at_start first bs k z is authors text w new =
    scan_cells authors text first new bs w z
    ∙ ap (λ n. cells_of authors text (take n bs) ++ (new ++ cells_of authors text (drop n bs)))
    (let same : passes first bs ≡ k = omega (arith, is) in same)

pub place_behind : (first p : Stamp) (bs : List Block) (start k : ℕ) → AllByRecursion IsSized bs → IsBehind bs p start →
    k ≡ start + passes first (drop start bs) → IsPlaceFor (Some p) first bs k
place_behind first p bs start k z behind is authors text w new =
    behind_cells authors text first new p bs behind.at k behind.block w z behind.there behind.ends behind.first
    (subst (λ n. k ≡ n + passes first (drop n bs)) behind.next is)

pub place_from : (first : Stamp) (parent : Option Stamp) (bs : List Block) (start k : ℕ) → AllByRecursion IsSized bs →
    StartsAt parent bs start → k ≡ start + passes first (drop start bs) → IsPlaceFor parent first bs k
place_from first None bs start k z starts is =
    place_at_start first bs k z (is ∙ ap (λ n. n + passes first (drop n bs)) starts)
place_from first (Some p) bs start k z starts is = place_behind first p bs start k z starts is

-- no two ranks have blocks with one first stamp
pub one_rank : (bs : List Block) (i j : ℕ) (a b : Block) → IsApart bs → slice_get bs i ≡ Some a → slice_get bs j
    ≡ Some b → i < j → a.first ≡ b.first → ⊥
one_rank [] i j a b apart e f h same = absurd (cc)
one_rank (x ∷ bs) i zero a b apart e f h same = absurd (omega arith)
one_rank (x ∷ bs) zero (suc j) a b apart e f h same =
    let here : x ≡ a = cc in
    differs bs j b x.first apart.1 f apart.0 (ap (λ (y : Block). y.first) here ∙ same)
one_rank (x ∷ bs) (suc i) (suc j) a b apart e f h same = one_rank bs i j a b apart.1 e f (omega arith) same

-- where a block ends with a stamp
pub behind_block : (m : Index) (bs : List Block) (p : Stamp) (at : ℕ) (b : Block) → IsSound m → IsListed m bs →
    slice_get bs at ≡ Some b → p ≡ stamp_behind b.first (b.len - 1) → Covers b.first b.len p → IsBehind bs p (suc at)
behind_block m bs p at b sound k e ends covers = record {
  at = at;
  block = b;
  next = refl;
  there = e;
  ends = ends;
  first = λ i x h f c. one_rank bs i at x b k.apart f e h (sound.apart p x.first b.first (holds_here m bs i x p k f c)
      (holds_here m bs at b p k e covers));
}

-- ---- steps of the search
pub passes_more : (first : Stamp) (bs : List Block) (i : ℕ) (b : Block) → slice_get bs i ≡ Some b → newer b.first first
    ≡ true → passes first (drop i bs) ≡ suc (passes first (drop (i + 1) bs))
passes_more first [] i b e h = absurd (cc)
passes_more first (x ∷ bs) zero b e h =
    let same : x ≡ b = cc in
    let here : newer x.first first ≡ true = ap (λ (y : Block). newer y.first first) same ∙ h in
    rw here (let one : 1 + passes first bs ≡ suc (passes first bs) = omega arith in one)
passes_more first (x ∷ bs) (suc i) b e h = passes_more first bs i b e h ∙ ap (λ n. suc (passes first (drop n (x ∷ bs))))
    (let same : suc (i + 1) ≡ suc i + 1 = omega arith in same)

pub passes_none : (first : Stamp) (bs : List Block) (i : ℕ) (b : Block) → slice_get bs i ≡ Some b → newer b.first first
    ≡ false → passes first (drop i bs) ≡ 0
passes_none first [] i b e h = absurd (cc)
passes_none first (x ∷ bs) zero b e h =
    let same : x ≡ b = cc in
    let here : newer x.first first ≡ false = ap (λ (y : Block). newer y.first first) same ∙ h in
    rw here refl
passes_none first (x ∷ bs) (suc i) b e h = passes_none first bs i b e h

-- where the stamp behind is an edge, a block ends
pub last_in_block : (m : Index) (bs : List Block) (p q : Stamp) (at : ℕ) (b : Block) → IsListed m bs → slice_get bs at
    ≡ Some b → Covers b.first b.len p → IsEdge m q → q.counter ≡ p.counter + 1 → q.replica ≡ p.replica
    → p ≡ stamp_behind b.first (b.len - 1)
last_in_block m bs p q at b k e covers edge counter replica =
    elim (cases_lt q.counter (b.first.counter + b.len)) [
      | inl inside ↦
          let begins = edge b.first (holds_here m bs at b q k e (covers.0 ∙ sym replica, omega arith, inside)) in
          let same = ap (λ (x : Stamp). x.counter) begins in
          absurd (omega arith)
      | inr behind ↦ same_stamps p (stamp_behind b.first (b.len - 1)) (omega arith) (sym covers.0)
    ]
