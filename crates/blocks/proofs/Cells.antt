-- The cells of blocks after a cut, and with other labels.
use Rattle.std.proofs.Common.{◌≡◌, ℕ, zero, suc, ◌+◌, ◌-◌, ◌≤◌, ◌<◌, List, [], ◌∷◌, ◌++◌, length, take, drop, Option}
use Rattle.std.proofs.Common.{Some, refl, sym, ap, ap₂, ◌∙◌, subst, arith, slice_get, slice_set, append_assoc}
use Rattle.std.proofs.Common.{length-take, length-drop}
use Rattle.std.specs.List.{AllByRecursion, insert}
use Rattle.pad_model.specs.Cell.{Cell}
use Rattle.pad_model.specs.Character.{next}
use Rattle.pad_model.specs.Stamp.{Stamp}
use Rattle.pad_model.specs.declared.who.Author.{Author}
use Rattle.ident_index.specs.Index.{stamp_behind}
use Rattle.ident_index.proofs.Order.{same_stamps}
use Rattle.blocks.specs.declared.block.Block.{Block}
use Rattle.blocks.specs.Blocks.{left_part, right_part, unlabelled, without_labels}
use Rattle.blocks.proofs.Entries.{each_get, each_set, each_insert}
use Rattle.blocks.specs.Cells.{author_at, run_cells, block_cells, cells_of, IsWithin, SameCells}

-- a run in two parts
run_split : (author : Author) (born : ℕ) (died : Option ℕ) (first : Stamp) (p : Option Stamp) (x : ℕ) (xs ys : List ℕ)
    (s q : Stamp) → s ≡ stamp_behind first (length xs + 1) → q ≡ stamp_behind first (length xs)
    → run_cells author born died first p (x ∷ xs ++ ys) ≡ run_cells author born died first p (x ∷ xs)
    ++ run_cells author born died s (Some q) ys
run_split author born died first p x [] ys s q is was =
    let here : next first ≡ s = same_stamps (next first) s (let e : s.counter ≡ first.counter
    + (0 + 1) = ap (λ (k : Stamp). k.counter) is in omega (arith, e)) (sym (ap (λ (k : Stamp). k.replica) is)) in
    let before : first ≡ q = same_stamps first q (let e : q.counter ≡ first.counter
    + 0 = ap (λ (k : Stamp). k.counter) was in omega (arith, e)) (sym (ap (λ (k : Stamp). k.replica) was)) in
    ap₂ (λ (k j : Stamp). (let it : Cell =
    record { stamp = first; parent = p; character = x; author = author; born = born; died = died } in it)
    ∷ run_cells author born died k (Some j) ys) here before
run_split author born died first p x (y ∷ xs) ys s q is was =
    ap (λ l. (let it : Cell = record { stamp = first; parent = p; character = x; author = author; born = born; died = died } in it) ∷ l)
    (run_split author born died (next first) (Some first) y xs ys s q
    (is ∙ same_stamps _ _ (omega arith) refl) (was ∙ same_stamps _ _ (omega arith) refl))

run_split_at : (author : Author) (born : ℕ) (died : Option ℕ) (first : Stamp) (p : Option Stamp) (xs ys : List ℕ)
    (n : ℕ) → length xs ≡ n → 0 < n
    → run_cells author born died first p (xs ++ ys) ≡ run_cells author born died first p xs
    ++ run_cells author born died (stamp_behind first n) (Some (stamp_behind first (n - 1))) ys
run_split_at author born died first p [] ys n e h = absurd (omega arith)
run_split_at author born died first p (x ∷ xs) ys n e h =
    run_split author born died first p x xs ys (stamp_behind first n) (stamp_behind first (n - 1))
    (same_stamps _ _ (omega arith) refl) (same_stamps _ _ (omega arith) refl)

drop_none : (i : ℕ) → drop {A = ℕ} i [] ≡ []
drop_none zero = refl
drop_none (suc i) = refl

take_none : (i : ℕ) → take {A = ℕ} i [] ≡ []
take_none zero = refl
take_none (suc i) = refl

-- a stretch in two parts
stretch_split : (text : List ℕ) (start len offset : ℕ) → offset ≤ len → take len (drop start text)
    ≡ take offset (drop start text) ++ take (len - offset) (drop (start + offset) text)
stretch_split text start len offset h = sym (ap (λ l. take offset (drop start text) ++ take (len - offset) l)
    (drop_more text start offset) ∙ take_parts (drop start text) len offset h)
  where
    drop_more : (text : List ℕ) (i j : ℕ) → drop (i + j) text ≡ drop j (drop i text)
    drop_more text zero j = ap (λ k. drop k text) (let e : 0 + j ≡ j = omega arith in e)
    drop_more [] (suc i) zero = drop_none (suc i + 0)
    drop_more [] (suc i) (suc j) = drop_none (suc i + suc j)
    drop_more (x ∷ text) (suc i) j = ap (λ k. drop k (x ∷ text)) (let e : suc i + j ≡ suc (i + j) = omega arith in e)
        ∙ drop_more text i j

    take_parts : (xs : List ℕ) (len offset : ℕ) → offset ≤ len → take offset xs ++ take (len - offset) (drop offset xs)
        ≡ take len xs
    take_parts xs len zero h = ap (λ k. take k xs) (let e : len - 0 ≡ len = omega arith in e)
    take_parts xs zero (suc offset) h = absurd (omega arith)
    take_parts [] (suc len) (suc offset) h = take_none (suc len - suc offset)
    take_parts (x ∷ xs) (suc len) (suc offset) h =
        ap (λ l. x ∷ l) (ap (λ k. take offset xs ++ take k (drop offset xs)) (let e : suc len - suc offset ≡ len
        - offset = omega arith in e) ∙ take_parts xs len offset (omega arith))

-- the cells of a block are those of its parts
block_split : (authors : List Author) (text : List ℕ) (b : Block) (offset label : ℕ) → b.start + b.len ≤ length text →
    0 < offset → offset < b.len
    → block_cells authors text (left_part b offset) ++ block_cells authors text (right_part b offset label)
    ≡ block_cells authors text b
block_split authors text b offset label h lo hi =
    sym (ap (run_cells (author_at authors b.author) b.born b.died b.first b.parent)
    (stretch_split text b.start b.len offset (omega arith))
    ∙ run_split_at (author_at authors b.author) b.born b.died b.first b.parent (take offset (drop b.start text))
    (take (b.len - offset) (drop (b.start + offset) text)) offset
    (simp (length-take, length-drop) (omega arith)) lo)

-- the cells of blocks of which one is cut
pub cells-cut : (authors : List Author) (text : List ℕ) (bs : List Block) (i : ℕ) (b : Block) (offset label j : ℕ) →
    AllByRecursion (IsWithin (length authors) (length text)) bs → slice_get bs i ≡ Some b → 0 < offset →
    offset < b.len → j ≡ suc i
    → cells_of authors text (insert (slice_set bs i (left_part b offset)) j (right_part b offset label))
    ≡ cells_of authors text bs
cells-cut authors text [] i b offset label j w e lo hi is = absurd (cc)
cells-cut authors text (x ∷ bs) zero b offset label zero w e lo hi is = absurd (omega arith)
cells-cut authors text (x ∷ bs) zero b offset label (suc zero) w e lo hi is =
    let same : x ≡ b = cc in
    let within : IsWithin (length authors) (length text) b = subst (IsWithin (length authors) (length text)) same w.0 in
    sym (append_assoc (block_cells authors text (left_part b offset))
    (block_cells authors text (right_part b offset label)) (cells_of authors text bs))
    ∙ ap (λ l. l ++ cells_of authors text bs) (block_split authors text b offset label within.1 lo hi)
    ∙ ap (λ (y : Block). block_cells authors text y ++ cells_of authors text bs) (sym same)
cells-cut authors text (x ∷ bs) zero b offset label (suc (suc j)) w e lo hi is = absurd (omega arith)
cells-cut authors text (x ∷ bs) (suc i) b offset label zero w e lo hi is = absurd (omega arith)
cells-cut authors text (x ∷ bs) (suc i) b offset label (suc j) w e lo hi is =
    ap (λ l. block_cells authors text x ++ l) (cells-cut authors text bs i b offset label j w.1 e lo hi (omega arith))

-- cells do not depend on labels
pub cells-without_labels : (authors : List Author) (text : List ℕ) (bs : List Block) →
    cells_of authors text (without_labels bs) ≡ cells_of authors text bs
cells-without_labels authors text [] = refl
cells-without_labels authors text (b ∷ bs) = ap (λ l. block_cells authors text b ++ l)
    (cells-without_labels authors text bs)

pub within-without_labels : (authors text : ℕ) (bs : List Block) → AllByRecursion (IsWithin authors text) bs →
    AllByRecursion (IsWithin authors text) (without_labels bs)
within-without_labels authors text [] w = tt
within-without_labels authors text (b ∷ bs) w = (w.0, within-without_labels authors text bs w.1)

pub within-of_without : (authors text : ℕ) (bs : List Block) → AllByRecursion (IsWithin authors text)
    (without_labels bs) → AllByRecursion (IsWithin authors text) bs
within-of_without authors text [] w = tt
within-of_without authors text (b ∷ bs) w = (w.0, within-of_without authors text bs w.1)

pub same_unlabelled : (old new : List Block) → without_labels new ≡ without_labels old → SameCells old new
same_unlabelled old new e = record {
  within = λ authors text w. within-of_without authors text new (subst (AllByRecursion (IsWithin authors text)) (sym e)
      (within-without_labels authors text old w));
  cells = λ authors text w. sym (cells-without_labels authors text new) ∙ ap (cells_of authors text) e
      ∙ cells-without_labels authors text old;
}

pub same_then : (old mid new : List Block) → SameCells old mid → SameCells mid new → SameCells old new
same_then old mid new a b = record {
  within = λ authors text w. b.within authors text (a.within authors text w);
  cells = λ authors text w. b.cells authors text (a.within (length authors) (length text) w) ∙ a.cells authors text w;
}

pub same_itself : (bs : List Block) → SameCells bs bs
same_itself bs = record { within = λ authors text w. w; cells = λ authors text w. refl }

-- lengths with other labels
pub length-without_labels : (bs : List Block) → length (without_labels bs) ≡ length bs
length-without_labels [] = refl
length-without_labels (b ∷ bs) = ap suc (length-without_labels bs)

-- the block at a rank, with another label
pub unlabelled_at : (old new : List Block) (i : ℕ) (b : Block) → without_labels new ≡ without_labels old →
    slice_get old i ≡ Some b → (c : Block) × (slice_get new i ≡ Some c) × (unlabelled c ≡ unlabelled b)
unlabelled_at [] new i b e h = absurd (cc)
unlabelled_at (x ∷ old) [] i b e h = absurd (cc)
unlabelled_at (x ∷ old) (y ∷ new) zero b e h =
    let same : x ≡ b = cc in
    let head : unlabelled y ≡ unlabelled x = cc in
    (y, refl, head ∙ ap unlabelled same)
unlabelled_at (x ∷ old) (y ∷ new) (suc i) b e h =
    let tail : without_labels new ≡ without_labels old = cc in
    unlabelled_at old new i b tail h

-- the parts of a block are within the lists if it is
pub within_cut : (authors text : ℕ) (bs : List Block) (i j : ℕ) (b : Block) (offset label : ℕ) →
    AllByRecursion (IsWithin authors text) bs → slice_get bs i ≡ Some b → offset ≤ b.len
    → AllByRecursion (IsWithin authors text)
    (insert (slice_set bs i (left_part b offset)) j (right_part b offset label))
within_cut authors text bs i j b offset label w e hi =
    let here = each_get (IsWithin authors text) bs i b w e in
    each_insert (IsWithin authors text) (slice_set bs i (left_part b offset)) j (right_part b offset label)
    (each_set (IsWithin authors text) bs i (left_part b offset) w (here.0, omega arith)) (here.0, omega arith)
