-- What the cells of blocks show at a revision.
use Rattle.std.proofs.Common.{◌≡◌, ℕ, zero, suc, ◌+◌, ◌-◌, ◌≤◌, ◌<◌, inl, inr, Bool, true, false, cond, ◌&&◌, List, []}
use Rattle.std.proofs.Common.{◌∷◌, ◌++◌, length, take, drop, map, filter, flat_map, sum_by, Option, Some, refl, sym, ap}
use Rattle.std.proofs.Common.{ap₂, ◌∙◌, subst, arith, slice_get, option_map, length-append, nat_le, lt-ltb, le-ltb}
use Rattle.std.proofs.Common.{get_or, drop-cons, add-one}
use Rattle.std.specs.List.{AllByRecursion, list_all}
use Rattle.std.proofs.lemmas.Bool.{cases_lt}
use Rattle.std.proofs.lemmas.List.{map-append}
use Rattle.std.proofs.lemmas.List.Elements.{filter-append}
use Rattle.std.proofs.lemmas.List.Sums.{sum_by-cons}
use Rattle.pad_model.specs.Cell.{Cell, character_of, cells_at, shown_at, is_after, text_at, cell_stamp_at}
use Rattle.pad_model.specs.Character.{next}
use Rattle.pad_model.specs.Stamp.{Stamp, same_stamp}
use Rattle.pad_model.specs.Visible.{shown_before, shown_through}
use Rattle.pad_model.specs.declared.who.Author.{Author}
use Rattle.pad_model.proofs.Newer.{split, same_stamp-refl, same_stamp-true}
use Rattle.ident_index.specs.Index.{Covers, stamp_behind}
use Rattle.ident_index.proofs.Order.{same_stamps}
use Rattle.blocks.specs.declared.block.Block.{Block}
use Rattle.blocks.specs.Cells.{author_at, run_cells, stretch, block_cells, cells_of, IsWithin}
use Rattle.text_history.proofs.Carrying.{get_front, get_back}
use Rattle.block_seq.specs.Rows.{shows, shown_len, shown_stretch, stamp_in}
use Rattle.block_seq.proofs.BlockCells.{length-run_cells, length-stretch}

-- what is shown is no more than what there is
pub shown_small : (rev : ℕ) (bs : List Block) → sum_by (shown_len rev) bs ≤ sum_by (λ b. b.len) bs
shown_small rev [] = omega arith
shown_small rev (b ∷ bs) =
    let rest = shown_small rev bs in
    let here : shown_len rev b ≤ b.len = split (shows rev b) (λ e. rw e (omega arith)) (λ e. rw e (omega arith)) in
    rw (sum_by-cons (shown_len rev) b bs, sum_by-cons (λ (x : Block). x.len) b bs) (omega (arith, rest, here))

-- a block is shown whole, or not at all
abbrev pub shown_cells : ℕ → List Author → List ℕ → Block → List Cell
shown_cells rev authors text b = cond (shows rev b) (block_cells authors text b) []

shown_run : (rev : ℕ) (author : Author) (born : ℕ) (died : Option ℕ) (first : Stamp) (p : Option Stamp) (text : List ℕ)
    → filter (shown_at rev) (run_cells author born died first p text) ≡ cond (nat_le born rev && is_after rev died)
    (run_cells author born died first p text) []
shown_run rev author born died first p [] = split (nat_le born rev && is_after rev died) (λ e. rw e refl)
    (λ e. rw e refl)
shown_run rev author born died first p (c ∷ text) =
    let rest = shown_run rev author born died (next first) (Some first) text in
    split (nat_le born rev && is_after rev died)
    (λ e. let rest' = rw e at rest in rw e
    (ap (λ l. (let it : Cell = record { stamp = first; parent = p; character = c; author = author; born = born; died = died } in it) ∷ l) rest'))
    (λ e. let rest' = rw e at rest in rw e rest')

pub cells_at-blocks : (rev : ℕ) (authors : List Author) (text : List ℕ) (bs : List Block) →
    cells_at rev (cells_of authors text bs) ≡ flat_map (shown_cells rev authors text) bs
cells_at-blocks rev authors text [] = refl
cells_at-blocks rev authors text (b ∷ bs) =
    filter-append (shown_at rev) (block_cells authors text b) (cells_of authors text bs)
    ∙ ap₂ (λ x y. x ++ y) (shown_run rev (author_at authors b.author) b.born b.died b.first b.parent (stretch text b))
    (cells_at-blocks rev authors text bs)

length-shown : (rev : ℕ) (authors : List Author) (text : List ℕ) (b : Block) → b.start + b.len ≤ length text →
    length (shown_cells rev authors text b) ≡ shown_len rev b
length-shown rev authors text b h =
    let all = length-run_cells (author_at authors b.author) b.born b.died b.first b.parent (stretch text b)
    ∙ length-stretch text b h in
    split (shows rev b) (λ e. rw e all) (λ e. rw e refl)

pub length-at : (rev : ℕ) (authors : List Author) (text : List ℕ) (bs : List Block) →
    AllByRecursion (IsWithin (length authors) (length text)) bs → length (cells_at rev (cells_of authors text bs))
    ≡ sum_by (shown_len rev) bs
length-at rev authors text bs w = ap length (cells_at-blocks rev authors text bs) ∙ lengths bs w
  where
    lengths : (bs : List Block) → AllByRecursion (IsWithin (length authors) (length text)) bs →
        length (flat_map (shown_cells rev authors text) bs) ≡ sum_by (shown_len rev) bs
    lengths [] w = refl
    lengths (b ∷ bs) w =
        length-append (shown_cells rev authors text b) (flat_map (shown_cells rev authors text) bs)
        ∙ ap₂ (λ x y. x + y) (length-shown rev authors text b w.0.1) (lengths bs w.1)
        ∙ sym (sum_by-cons (shown_len rev) b bs)

characters-run : (author : Author) (born : ℕ) (died : Option ℕ) (first : Stamp) (p : Option Stamp) (text : List ℕ) →
    map (λ c. c.character) (run_cells author born died first p text) ≡ text
characters-run author born died first p [] = refl
characters-run author born died first p (c ∷ text) =
    ap (λ l. c ∷ l) (characters-run author born died (next first) (Some first) text)

pub text-at : (rev : ℕ) (authors : List Author) (text : List ℕ) (bs : List Block) →
    text_at rev (cells_of authors text bs) ≡ flat_map (shown_stretch rev text) bs
text-at rev authors text bs = ap (map (λ c. c.character)) (cells_at-blocks rev authors text bs) ∙ texts bs
  where
    texts : (bs : List Block) → map (λ c. c.character) (flat_map (shown_cells rev authors text) bs)
        ≡ flat_map (shown_stretch rev text) bs
    texts [] = refl
    texts (b ∷ bs) =
        map-append (λ (c : Cell). c.character) (shown_cells rev authors text b)
        (flat_map (shown_cells rev authors text) bs)
        ∙ ap₂ (λ x y. x ++ y)
        (let all = characters-run (author_at authors b.author) b.born b.died b.first b.parent (stretch text b) in
        let here : map (λ c. c.character) (shown_cells rev authors text b) ≡ shown_stretch rev text b =
        split (shows rev b) (λ e. rw e all) (λ e. rw e refl) in here)
        (texts bs)

-- ---- the stamp at a place
stamp-run : (author : Author) (born : ℕ) (died : Option ℕ) (first : Stamp) (p : Option Stamp) (text : List ℕ) (i : ℕ) →
    i < length text → option_map (λ c. c.stamp) (slice_get (run_cells author born died first p text) i)
    ≡ Some (stamp_behind first i)
stamp-run author born died first p [] i h = absurd (omega arith)
stamp-run author born died first p (c ∷ text) zero h =
    ap Some (let same : first ≡ stamp_behind first 0 = same_stamps _ _ (omega arith) refl in same)
stamp-run author born died first p (c ∷ text) (suc i) h =
    stamp-run author born died (next first) (Some first) text i (omega arith)
    ∙ ap Some (let same : stamp_behind (next first) i ≡ stamp_behind first (suc i) = same_stamps _ _
    (omega arith) refl in same)

pub stamp-at : (rev : ℕ) (authors : List Author) (text : List ℕ) (bs : List Block) (i : ℕ) →
    AllByRecursion (IsWithin (length authors) (length text)) bs → cell_stamp_at rev (cells_of authors text bs) i
    ≡ stamp_in rev bs i
stamp-at rev authors text bs i w = ap (λ l. option_map (λ c. c.stamp) (slice_get l i))
    (cells_at-blocks rev authors text bs) ∙ places bs i w
  where
    places : (bs : List Block) (i : ℕ) → AllByRecursion (IsWithin (length authors) (length text)) bs →
        option_map (λ c. c.stamp) (slice_get (flat_map (shown_cells rev authors text) bs) i) ≡ stamp_in rev bs i
    places [] zero w = refl
    places [] (suc i) w = refl
    places (b ∷ bs) i w =
        let size = length-shown rev authors text b w.0.1 in
        elim (cases_lt i (shown_len rev b)) [
          | inl here ↦
              ap (option_map (λ c. c.stamp))
              (get_front (shown_cells rev authors text b) (flat_map (shown_cells rev authors text) bs) i
              (omega (arith, size)))
              ∙ split (shows rev b)
              (λ e. let all = length-stretch text b w.0.1 in let h' = rw e at here in
              rw (e, lt-ltb i b.len h') (stamp-run (author_at authors b.author) b.born b.died b.first b.parent
              (stretch text b) i (omega (arith, all, h'))))
              (λ e. let h' = rw e at here in absurd (omega arith))
          | inr past ↦
              ap (option_map (λ c. c.stamp))
              (get_back (shown_cells rev authors text b) (flat_map (shown_cells rev authors text) bs) i
              (i - shown_len rev b) (omega (arith, size)))
              ∙ places bs (i - shown_len rev b) w.1 ∙ sym (rw (le-ltb i (shown_len rev b) past) refl)
        ]

-- ---- the cell at a place
pub shown-cell : (rev : ℕ) (authors : List Author) (text : List ℕ) (bs : List Block) (place rank offset : ℕ)
    (b : Block) → AllByRecursion (IsWithin (length authors) (length text)) bs → slice_get bs rank ≡ Some b
    → offset < shown_len rev b → place ≡ sum_by (shown_len rev) (take rank bs) + offset
    → slice_get (cells_at rev (cells_of authors text bs)) place ≡ slice_get (block_cells authors text b) offset
shown-cell rev authors text bs place rank offset b w e h p =
    ap (λ l. slice_get l place) (cells_at-blocks rev authors text bs) ∙ found bs place rank w e p
  where
    found : (bs : List Block) (place rank : ℕ) → AllByRecursion (IsWithin (length authors) (length text)) bs →
        slice_get bs rank ≡ Some b → place ≡ sum_by (shown_len rev) (take rank bs) + offset
        → slice_get (flat_map (shown_cells rev authors text) bs) place ≡ slice_get (block_cells authors text b) offset
    found [] place rank w e p = absurd (cc)
    found (x ∷ bs) place zero w e p =
        let same : x ≡ b = cc in
        let h' : offset < shown_len rev x = subst (λ (y : Block). offset < shown_len rev y) (sym same) h in
        let size = length-shown rev authors text x w.0.1 in
        let here : place ≡ offset = omega (arith, p) in
        ap (slice_get (flat_map (shown_cells rev authors text) (x ∷ bs))) here
        ∙ get_front (shown_cells rev authors text x) (flat_map (shown_cells rev authors text) bs) offset
        (omega (arith, size, h'))
        ∙ split (shows rev x) (λ e. rw e refl) (λ e. let none = rw e at h' in absurd (omega (arith, none)))
        ∙ ap (λ (y : Block). slice_get (block_cells authors text y) offset) same
    found (x ∷ bs) place (suc rank) w e p =
        let size = length-shown rev authors text x w.0.1 in
        let sum = sum_by-cons (shown_len rev) x (take rank bs) in
        get_back (shown_cells rev authors text x) (flat_map (shown_cells rev authors text) bs) place
        (sum_by (shown_len rev) (take rank bs) + offset) (omega (arith, size, sum, p))
        ∙ found bs (sum_by (shown_len rev) (take rank bs) + offset) rank w.1 e refl

-- ---- a loop over a slice that has passed one more item
pub passes_one : {A : Type 0} (f : A → Bool) (xs : List A) (i : ℕ) (x : A) → i < length xs → x ≡ get_or xs i x →
    f x ≡ true → list_all f (drop i xs) ≡ list_all f xs → list_all f (drop (i + 1) xs) ≡ list_all f xs
passes_one f xs i x h is pass so_far =
    sym (ap (list_all f) (drop-cons xs i x h) ∙ (let first : f (get_or xs i x) ≡ true = ap f (sym is) ∙ pass in
    rw (first, add-one i) refl)) ∙ so_far

-- ---- what stands before a character
module _ (rev : ℕ) (author : Author) (born : ℕ) (died : Option ℕ) (a : Stamp) (rest : List Cell) where
  pub apart_from : (s : Stamp) (n : ℕ) → (Covers s (suc n) a → ⊥) → same_stamp s a ≡ false
  apart_from s n none = split (same_stamp s a)
      (λ e. let same = same_stamp-true s a e in
      let counter = ap (λ (k : Stamp). k.counter) same in
      absurd (none (ap (λ (k : Stamp). k.replica) same, omega arith, omega arith))) (λ e. e)

  before_misses : (s : Stamp) (p : Option Stamp) (text : List ℕ) → (Covers s (length text) a → ⊥) →
      shown_before character_of (shown_at rev) (run_cells author born died s p text ++ rest) a
      ≡ cond (nat_le born rev && is_after rev died) (length text) 0 + shown_before character_of (shown_at rev) rest a
  before_misses s p [] none = split (nat_le born rev && is_after rev died) (λ e. rw e (omega arith))
      (λ e. rw e (omega arith))
  before_misses s p (c ∷ text) none =
      let more = before_misses (next s) (Some s) text (λ k. none (k.0, omega arith, omega arith)) in
      rw (apart_from s (length text) none) (split (nat_le born rev && is_after rev died) (λ e. let m = rw e at more in
      rw e (omega (arith, m))) (λ e. let m = rw e at more in rw e (omega (arith, m))))

  before_hits : (s : Stamp) (p : Option Stamp) (text : List ℕ) (o : ℕ) → a ≡ stamp_behind s o → o < length text →
      shown_before character_of (shown_at rev) (run_cells author born died s p text ++ rest) a
      ≡ cond (nat_le born rev && is_after rev died) o 0
  before_hits s p [] o is h = absurd (omega arith)
  before_hits s p (c ∷ text) zero is h =
      let same : s ≡ a = same_stamps s a (let e : a.counter ≡ s.counter + 0 = ap (λ (k : Stamp). k.counter) is in
      omega (arith, e)) (sym (ap (λ (k : Stamp). k.replica) is)) in
      let here : same_stamp s a ≡ true = subst (λ (k : Stamp). same_stamp s k ≡ true) same (same_stamp-refl s) in
      rw here (split (nat_le born rev && is_after rev died) (λ e. rw e refl) (λ e. rw e refl))
  before_hits s p (c ∷ text) (suc o) is h =
      let counter : a.counter ≡ s.counter + suc o = ap (λ (k : Stamp). k.counter) is in
      let apart : same_stamp s a ≡ false =
      split (same_stamp s a) (λ e. let k = ap (λ (k : Stamp). k.counter) (same_stamp-true s a e) in
      absurd (omega arith)) (λ e. e) in
      let more = before_hits (next s) (Some s) text o (is ∙ same_stamps _ _ (omega arith) refl) (omega arith) in
      rw apart (split (nat_le born rev && is_after rev died) (λ e. let m = rw e at more in rw e (omega (arith, m)))
      (λ e. let m = rw e at more in rw e (omega (arith, m))))

pub before-blocks : (rev : ℕ) (authors : List Author) (text : List ℕ) (bs : List Block) (r o : ℕ) (b : Block)
    (a : Stamp) → AllByRecursion (IsWithin (length authors) (length text)) bs → slice_get bs r ≡ Some b →
    a ≡ stamp_behind b.first o → o < b.len
    → ((i : ℕ) (x : Block) → i < r → slice_get bs i ≡ Some x → Covers x.first x.len a → ⊥)
    → shown_before character_of (shown_at rev) (cells_of authors text bs) a ≡ sum_by (shown_len rev) (take r bs)
    + cond (shows rev b) o 0
before-blocks rev authors text [] r o b a w e is h none = absurd (cc)
before-blocks rev authors text (x ∷ bs) zero o b a w e is h none =
    let same : x ≡ b = cc in
    let all = length-stretch text x w.0.1 in
    let len : x.len ≡ b.len = ap (λ (y : Block). y.len) same in
    before_hits rev (author_at authors x.author) x.born x.died a (cells_of authors text bs) x.first x.parent
    (stretch text x) o (subst (λ (y : Block). a ≡ stamp_behind y.first o) (sym same) is) (omega (arith, all))
    ∙ ap (λ (y : Block). cond (shows rev y) o 0) same
    ∙ (let plain : cond (shows rev b) o 0 ≡ 0 + cond (shows rev b) o 0 = omega arith in plain)
before-blocks rev authors text (x ∷ bs) (suc r) o b a w e is h none =
    let all = length-stretch text x w.0.1 in
    let rest = before-blocks rev authors text bs r o b a w.1 e is h (λ i y l. none (suc i) y (omega arith)) in
    before_misses rev (author_at authors x.author) x.born x.died a (cells_of authors text bs) x.first x.parent
    (stretch text x) (λ c. none 0 x (omega arith) refl (subst (λ n. Covers x.first n a) all c))
    ∙ ap (λ n. cond (shows rev x) n 0 + shown_before character_of (shown_at rev) (cells_of authors text bs) a) all
    ∙ rw (sum_by-cons (shown_len rev) x (take r bs)) (omega (arith, rest))

-- ---- and up to it
module _ (rev : ℕ) (author : Author) (born : ℕ) (died : Option ℕ) (a : Stamp) (rest : List Cell) where
  through_misses : (s : Stamp) (p : Option Stamp) (text : List ℕ) → (Covers s (length text) a → ⊥) →
      shown_through character_of (shown_at rev) (run_cells author born died s p text ++ rest) a
      ≡ cond (nat_le born rev && is_after rev died) (length text) 0 + shown_through character_of (shown_at rev) rest a
  through_misses s p [] none = split (nat_le born rev && is_after rev died) (λ e. rw e (omega arith))
      (λ e. rw e (omega arith))
  through_misses s p (c ∷ text) none =
      let more = through_misses (next s) (Some s) text (λ k. none (k.0, omega arith, omega arith)) in
      rw (apart_from rev author born died a rest s (length text) none)
      (split (nat_le born rev && is_after rev died) (λ e. let m = rw e at more in rw e (omega (arith, m)))
      (λ e. let m = rw e at more in rw e (omega (arith, m))))

  through_hits : (s : Stamp) (p : Option Stamp) (text : List ℕ) (o : ℕ) → a ≡ stamp_behind s o → o < length text →
      shown_through character_of (shown_at rev) (run_cells author born died s p text ++ rest) a
      ≡ cond (nat_le born rev && is_after rev died) (o + 1) 0
  through_hits s p [] o is h = absurd (omega arith)
  through_hits s p (c ∷ text) zero is h =
      let same : s ≡ a = same_stamps s a (let e : a.counter ≡ s.counter + 0 = ap (λ (k : Stamp). k.counter) is in
      omega (arith, e)) (sym (ap (λ (k : Stamp). k.replica) is)) in
      let here : same_stamp s a ≡ true = subst (λ (k : Stamp). same_stamp s k ≡ true) same (same_stamp-refl s) in
      rw here (split (nat_le born rev && is_after rev died) (λ e. rw e refl) (λ e. rw e refl))
  through_hits s p (c ∷ text) (suc o) is h =
      let counter : a.counter ≡ s.counter + suc o = ap (λ (k : Stamp). k.counter) is in
      let apart : same_stamp s a ≡ false =
      split (same_stamp s a) (λ e. let k = ap (λ (k : Stamp). k.counter) (same_stamp-true s a e) in
      absurd (omega arith)) (λ e. e) in
      let more = through_hits (next s) (Some s) text o (is ∙ same_stamps _ _ (omega arith) refl) (omega arith) in
      rw apart (split (nat_le born rev && is_after rev died) (λ e. let m = rw e at more in rw e (omega (arith, m)))
      (λ e. let m = rw e at more in rw e (omega (arith, m))))

pub through-blocks : (rev : ℕ) (authors : List Author) (text : List ℕ) (bs : List Block) (r o : ℕ) (b : Block)
    (a : Stamp) → AllByRecursion (IsWithin (length authors) (length text)) bs → slice_get bs r ≡ Some b →
    a ≡ stamp_behind b.first o → o < b.len
    → ((i : ℕ) (x : Block) → i < r → slice_get bs i ≡ Some x → Covers x.first x.len a → ⊥)
    → shown_through character_of (shown_at rev) (cells_of authors text bs) a ≡ sum_by (shown_len rev) (take r bs)
    + cond (shows rev b) (o + 1) 0
through-blocks rev authors text [] r o b a w e is h none = absurd (cc)
through-blocks rev authors text (x ∷ bs) zero o b a w e is h none =
    let same : x ≡ b = cc in
    let all = length-stretch text x w.0.1 in
    let len : x.len ≡ b.len = ap (λ (y : Block). y.len) same in
    through_hits rev (author_at authors x.author) x.born x.died a (cells_of authors text bs) x.first x.parent
    (stretch text x) o (subst (λ (y : Block). a ≡ stamp_behind y.first o) (sym same) is) (omega (arith, all))
    ∙ ap (λ (y : Block). cond (shows rev y) (o + 1) 0) same
    ∙ (let plain : cond (shows rev b) (o + 1) 0 ≡ 0 + cond (shows rev b) (o + 1) 0 = omega arith in plain)
through-blocks rev authors text (x ∷ bs) (suc r) o b a w e is h none =
    let all = length-stretch text x w.0.1 in
    let rest = through-blocks rev authors text bs r o b a w.1 e is h (λ i y l. none (suc i) y (omega arith)) in
    through_misses rev (author_at authors x.author) x.born x.died a (cells_of authors text bs) x.first x.parent
    (stretch text x) (λ c. none 0 x (omega arith) refl (subst (λ n. Covers x.first n a) all c))
    ∙ ap (λ n. cond (shows rev x) n 0 + shown_through character_of (shown_at rev) (cells_of authors text bs) a) all
    ∙ rw (sum_by-cons (shown_len rev) x (take r bs)) (omega (arith, rest))
