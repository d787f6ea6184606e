-- Which stamps the cells of blocks have, and which cells they are when texts and authors join.
use Rattle.std.proofs.Common.{◌≡◌, ℕ, zero, suc, ◌+◌, ◌≤◌, ◌<◌, inl, inr, Bool, true, false, not, cond, ◌&&◌, ◌||◌, eqb}
use Rattle.std.proofs.Common.{ltb, List, [], ◌∷◌, ◌++◌, length, take, drop, map, sum_by, Option, Some, None, refl, sym}
use Rattle.std.proofs.Common.{ap, ap₂, ◌∙◌, arith, slice_get, length-append, length-take, length-drop, eq-eqb, le-leb}
use Rattle.std.proofs.Common.{le-ltb, lt-ltb, leb-true, is_some, MatchOption, fold, max, ltb-true, eqb-true, subst}
use Rattle.std.specs.FinMap.{get}
use Rattle.std.specs.Option.{IsSomeAnd}
use Rattle.std.specs.List.{AllByRecursion, list_any, list_all}
use Rattle.std.proofs.lemmas.Bool.{and_parts, and_from, cases_lt}
use Rattle.std.proofs.lemmas.List.Folds.{list_any-append}
use Rattle.std.proofs.lemmas.List.Sums.{sum_by-cons}
use Rattle.std.proofs.lemmas.List.{get_or_append_left}
use Rattle.pad_model.specs.Stamp.{Stamp, same_stamp}
use Rattle.pad_model.specs.Cell.{Cell, character_of, born_at, last_of}
use Rattle.pad_model.specs.Character.{next, run_characters}
use Rattle.pad_model.specs.Legal.{has_stamp}
use Rattle.pad_model.specs.Operation.{stamps_from}
use Rattle.pad_model.specs.Visible.{is_erased}
use Rattle.pad_model.specs.declared.who.Author.{Author}
use Rattle.pad_model.proofs.Newer.{split}
use Rattle.pad_model.proofs.Erase.{in_span, is_erased-stamps_from}
use Rattle.ident_index.specs.Index.{Index, Covers, Holds, HoldsNone, IsPlace, stamp_behind}
use Rattle.ident_index.specs.declared.place.Place.{Place}
use Rattle.ident_index.proofs.Sound.{some_entry}
use Rattle.blocks.specs.declared.block.Block.{Block}
use Rattle.blocks.specs.Blocks.{IsListed, IsSpot}
use Rattle.blocks.specs.Cells.{author_at, run_cells, stretch, block_cells, cells_of, IsWithin}
use Rattle.blocks.proofs.Parts.{holds_here, what_holds, some_block}

-- how many cells a run has
pub length-run_cells : (author : Author) (born : ℕ) (died : Option ℕ) (first : Stamp) (p : Option Stamp)
    (text : List ℕ) → length (run_cells author born died first p text) ≡ length text
length-run_cells author born died first p [] = refl
length-run_cells author born died first p (c ∷ text) =
    ap suc (length-run_cells author born died (next first) (Some first) text)

pub length-stretch : (text : List ℕ) (b : Block) → b.start + b.len ≤ length text → length (stretch text b) ≡ b.len
length-stretch text b h = simp (length-take, length-drop) (omega arith)

pub length-cells : (authors : List Author) (text : List ℕ) (bs : List Block) →
    AllByRecursion (IsWithin (length authors) (length text)) bs → length (cells_of authors text bs)
    ≡ sum_by (λ b. b.len) bs
length-cells authors text [] w = refl
length-cells authors text (b ∷ bs) w =
    length-append (block_cells authors text b) (cells_of authors text bs)
    ∙ ap₂ (λ m n. m + n) (length-run_cells (author_at authors b.author) b.born b.died b.first b.parent (stretch text b)
    ∙ length-stretch text b w.0.1) (length-cells authors text bs w.1)
    ∙ sym (sum_by-cons (λ (x : Block). x.len) b bs)

-- which stamps a run has
pub has-run : (author : Author) (born : ℕ) (died : Option ℕ) (first : Stamp) (p : Option Stamp) (text : List ℕ)
    (s : Stamp) → has_stamp character_of (run_cells author born died first p text) s
    ≡ is_erased (stamps_from first (length text)) s
has-run author born died first p [] s = refl
has-run author born died first p (c ∷ text) s = ap (λ b. same_stamp first s || b)
    (has-run author born died (next first) (Some first) text s)

pub has-cells : (authors : List Author) (text : List ℕ) (bs : List Block) (s : Stamp) →
    AllByRecursion (IsWithin (length authors) (length text)) bs → has_stamp character_of (cells_of authors text bs) s
    ≡ list_any (λ b. in_span b.first b.len s) bs
has-cells authors text [] s w = refl
has-cells authors text (b ∷ bs) s w =
    list_any-append (λ x. same_stamp x.stamp s) (block_cells authors text b) (cells_of authors text bs)
    ∙ ap₂ (λ x y. x || y)
    (has-run (author_at authors b.author) b.born b.died b.first b.parent (stretch text b) s
    ∙ ap (λ n. is_erased (stamps_from b.first n) s) (length-stretch text b w.0.1)
    ∙ is_erased-stamps_from b.first b.len s)
    (has-cells authors text bs s w.1)

-- ---- tests and facts
pub covers-in_span : (first : Stamp) (n : ℕ) (s : Stamp) → Covers first n s → in_span first n s ≡ true
covers-in_span first n s c = and_from _ _ (eq-eqb first.replica s.replica c.0)
    (and_from _ _ (le-leb first.counter s.counter c.1) (lt-ltb s.counter (first.counter + n) c.2))

pub in_span-covers : (first : Stamp) (n : ℕ) (s : Stamp) → in_span first n s ≡ true → Covers first n s
in_span-covers first n s h =
    let both = and_parts _ _ h in
    let rest = and_parts _ _ both.1 in (
      eqb-true first.replica s.replica both.0,
      leb-true first.counter s.counter rest.0,
      ltb-true s.counter (first.counter + n) rest.1,
    )

pub any_at : {A : Type 0} (t : A → Bool) (xs : List A) → list_any t xs ≡ true → (i : ℕ) × (x : A)
    × (slice_get xs i ≡ Some x) × (t x ≡ true)
any_at t [] h = absurd (cc)
any_at t (x ∷ xs) h =
    split (t x) (λ e. (0, x, refl, e))
    (λ e. let h' = rw e at h in
    let rest = any_at t xs h' in
    (suc rest.0, rest.1, rest.2, rest.3))

pub any_from : {A : Type 0} (t : A → Bool) (xs : List A) (i : ℕ) (x : A) → slice_get xs i ≡ Some x → t x ≡ true →
    list_any t xs ≡ true
any_from t [] i x e h = absurd (cc)
any_from t (y ∷ xs) zero x e h = let same : y ≡ x = cc in rw (ap t same ∙ h) refl
any_from t (y ∷ xs) (suc i) x e h = split (t y) (λ f. rw f refl) (λ f. rw f (any_from t xs i x e h))

-- a stamp is among the cells just where a block of the index holds it
pub cell_held : (authors : List Author) (text : List ℕ) (m : Index) (bs : List Block) (s : Stamp) → IsListed m bs →
    AllByRecursion (IsWithin (length authors) (length text)) bs → has_stamp character_of (cells_of authors text bs) s
    ≡ true → (first : Stamp) × Holds m first s
cell_held authors text m bs s k w h =
    let found = any_at (λ (b : Block). in_span b.first b.len s) bs (sym (has-cells authors text bs s w) ∙ h) in
    (found.1.first, holds_here m bs found.0 found.1 s k found.2 (in_span-covers found.1.first found.1.len s found.3))

pub held_cell : (authors : List Author) (text : List ℕ) (m : Index) (bs : List Block) (s first : Stamp) →
    IsListed m bs → AllByRecursion (IsWithin (length authors) (length text)) bs → Holds m first s →
    has_stamp character_of (cells_of authors text bs) s ≡ true
held_cell authors text m bs s first k w h =
    let found = what_holds m bs first s k h in
    has-cells authors text bs s w ∙ any_from (λ (b : Block). in_span b.first b.len s) bs found.0 found.1 found.2
    (covers-in_span found.1.first found.1.len s found.3)

pub none_held : (authors : List Author) (text : List ℕ) (m : Index) (bs : List Block) (s : Stamp) → IsListed m bs →
    AllByRecursion (IsWithin (length authors) (length text)) bs → HoldsNone m s →
    has_stamp character_of (cells_of authors text bs) s ≡ false
none_held authors text m bs s k w none =
    split (has_stamp character_of (cells_of authors text bs) s)
    (λ e. let held = cell_held authors text m bs s k w e in absurd (none held.0 held.1))
    (λ e. e)

-- a test of stamps that each stamp there passes, or one fails
pub all_stamps : (t : Stamp → Bool) (cells : List Cell) → ((s : Stamp) → has_stamp character_of cells s ≡ true →
    t s ≡ true) → list_all (λ x. t x.stamp) cells ≡ true
all_stamps t [] h = refl
all_stamps t (c ∷ cells) h =
    and_from _ _ (h c.stamp (ap (λ b. b || has_stamp character_of cells c.stamp)
    (Rattle.pad_model.proofs.Newer.same_stamp-refl c.stamp)))
    (all_stamps t cells (λ s e. h s (split (same_stamp c.stamp s) (λ f. rw f refl) (λ f. rw f e))))

pub one_fails : (t : Stamp → Bool) (cells : List Cell) (s : Stamp) → has_stamp character_of cells s ≡ true →
    t s ≡ false → list_all (λ x. t x.stamp) cells ≡ false
one_fails t [] s h f = absurd (cc)
one_fails t (c ∷ cells) s h f =
    split (same_stamp c.stamp s)
    (λ e. rw (ap t (Rattle.pad_model.proofs.Newer.same_stamp-true c.stamp s e) ∙ f) refl)
    (λ e. let h' = rw e at h in
    ap (λ b. t c.stamp && b) (one_fails t cells s h' f) ∙ and_false (t c.stamp))
  where
    and_false : (b : Bool) → (b && false) ≡ false
    and_false true = refl
    and_false false = refl

-- ---- more text and more authors
drop_front : (xs ys : List ℕ) (i n : ℕ) → i + n ≤ length xs → take n (drop i (xs ++ ys)) ≡ take n (drop i xs)
drop_front xs ys zero zero h = refl
drop_front [] ys zero (suc n) h = absurd (omega arith)
drop_front (x ∷ xs) ys zero (suc n) h = ap (λ l. x ∷ l) (drop_front xs ys zero n (omega arith))
drop_front [] ys (suc i) n h = absurd (omega arith)
drop_front (x ∷ xs) ys (suc i) n h = drop_front xs ys i n (omega arith)

pub cells-more_text : (authors : List Author) (text more : List ℕ) (bs : List Block) →
    AllByRecursion (IsWithin (length authors) (length text)) bs → cells_of authors (text ++ more) bs
    ≡ cells_of authors text bs
cells-more_text authors text more [] w = refl
cells-more_text authors text more (b ∷ bs) w =
    ap₂ (λ x y. x ++ y)
    (ap (run_cells (author_at authors b.author) b.born b.died b.first b.parent)
    (drop_front text more b.start b.len w.0.1))
    (cells-more_text authors text more bs w.1)

pub cells-more_authors : (authors : List Author) (a : Author) (text : List ℕ) (bs : List Block) →
    AllByRecursion (IsWithin (length authors) (length text)) bs → cells_of (authors ++ a ∷ []) text bs
    ≡ cells_of authors text bs
cells-more_authors authors a text [] w = refl
cells-more_authors authors a text (b ∷ bs) w =
    ap₂ (λ x y. x ++ y)
    (ap (λ (who : Author). run_cells who b.born b.died b.first b.parent (stretch text b))
    (get_or_append_left authors (a ∷ []) (record { name = []; origin = 0 }) b.author w.0.0))
    (cells-more_authors authors a text bs w.1)

pub within_more : (m n j k : ℕ) (bs : List Block) → m ≤ n → j ≤ k → AllByRecursion (IsWithin m j) bs →
    AllByRecursion (IsWithin n k) bs
within_more m n j k [] p q w = tt
within_more m n j k (b ∷ bs) p q w = let h = w.0 in ((omega arith, omega arith), within_more m n j k bs p q w.1)

-- the cells of a new block are those of its run
pub new_block_cells : (author : Author) (rev : ℕ) (first : Stamp) (p : Option Stamp) (text : List ℕ) →
    run_cells author rev None first p text ≡ map (born_at rev) (run_characters first p text author)
new_block_cells author rev first p [] = refl
new_block_cells author rev first p (c ∷ text) =
    ap (λ l. (let it : Cell = record { stamp = first; parent = p; character = c; author = author; born = rev; died = None } in it) ∷ l) (new_block_cells author rev (next first) (Some first) text)

pub stretch_last : (text more : List ℕ) (n : ℕ) → n ≡ length more → take n (drop (length text) (text ++ more)) ≡ more
stretch_last [] [] zero h = refl
stretch_last [] [] (suc n) h = absurd (omega arith)
stretch_last [] (y ∷ more) zero h = absurd (omega arith)
stretch_last [] (y ∷ more) (suc n) h = ap (λ l. y ∷ l) (stretch_last [] more n (omega arith))
stretch_last (x ∷ text) more n h = stretch_last text more n h

-- ---- what a look-up tells of the cells
pub spot_block : (bs : List Block) (s : Stamp) (rank offset : ℕ) → IsSpot bs s rank offset → (b : Block)
    × (slice_get bs rank ≡ Some b) × Covers b.first b.len s
spot_block bs s rank offset h =
    let found = some_block (slice_get bs rank) (λ (b : Block). (s ≡ stamp_behind b.first offset) × (offset < b.len))
    h in
    let counter = ap (λ (x : Stamp). x.counter) found.2.0 in
    let inside = found.2.1 in
    (found.0, found.1, (sym (ap (λ (x : Stamp). x.replica) found.2.0), omega arith, omega arith))

-- the same, where the index alone was asked
pub located_has : (authors : List Author) (text : List ℕ) (m : Index) (bs : List Block) (s : Stamp) (o : Option Place) →
    IsListed m bs → AllByRecursion (IsWithin (length authors) (length text)) bs
    → MatchOption o (HoldsNone m s) (IsPlace m s) → is_some o ≡ has_stamp character_of (cells_of authors text bs) s
located_has authors text m bs s None k w h = sym (none_held authors text m bs s k w h)
located_has authors text m bs s (Some place) k w h =
    let some = some_entry (get m place.first) (λ e. (place.offset < e.len) × (place.label ≡ e.label)) h.block in
    let inside = some.2.0 in
    let counter = ap (λ (x : Stamp). x.counter) h.stamp in
    let covers : Covers place.first some.0.len s =
    (sym (ap (λ (x : Stamp). x.replica) h.stamp), omega arith, omega arith) in
    let holds : Holds m place.first s =
    subst (λ o. IsSomeAnd o (λ e. Covers place.first e.len s)) (sym some.1) covers in
    sym (held_cell authors text m bs s place.first k w holds)

-- the test of a stamp against those of its replica, by the greatest of them
above_here : (first : Stamp) (last : ℕ) (s : Stamp) → last < first.counter →
    (s.replica ≡ first.replica → s.counter ≤ last) → (not (eqb s.replica first.replica) || ltb s.counter first.counter)
    ≡ true
above_here first last s less bound =
    split (eqb s.replica first.replica)
    (λ e. let low = bound (eqb-true s.replica first.replica e) in rw e (lt-ltb s.counter first.counter (omega arith)))
    (λ e. rw e refl)

not_above_here : (first : Stamp) (last : ℕ) → first.counter ≤ last →
    (not (eqb first.replica first.replica) || ltb last first.counter) ≡ false
not_above_here first last more = rw (eq-eqb first.replica first.replica refl) (le-ltb last first.counter more)

pub above_test : (authors : List Author) (text : List ℕ) (m : Index) (bs : List Block) (first : Stamp) (last : ℕ) →
    IsListed m bs → AllByRecursion (IsWithin (length authors) (length text)) bs → 1 ≤ first.counter
    → ((f s : Stamp) → s.replica ≡ first.replica → Holds m f s → s.counter ≤ last) →
    (1 ≤ last → (f : Stamp) × Holds m f (record { counter = last; replica = first.replica }))
    → ltb last first.counter ≡ list_all (λ c. not (eqb c.stamp.replica first.replica)
    || ltb c.stamp.counter first.counter) (cells_of authors text bs)
above_test authors text m bs first last k w some bound there =
    elim (cases_lt last first.counter) [
      | inl less ↦
          lt-ltb last first.counter less
          ∙ sym (all_stamps (λ s. not (eqb s.replica first.replica) || ltb s.counter first.counter)
          (cells_of authors text bs)
          (λ s h. above_here first last s less (λ same. let held = cell_held authors text m bs s k w h in
          bound held.0 s same held.1)))
      | inr more ↦
          let held = there (omega arith) in
          le-ltb last first.counter more
          ∙ sym (one_fails (λ s. not (eqb s.replica first.replica) || ltb s.counter first.counter)
          (cells_of authors text bs) (record { counter = last; replica = first.replica })
          (held_cell authors text m bs (record { counter = last; replica = first.replica }) held.0 k w held.1)
          (not_above_here first last more))
    ]

-- ---- the greatest counter
abbrev most_from : ℕ → ℕ → List Cell → ℕ
most_from replica low cells = fold (λ most c. cond (eqb c.stamp.replica replica) (max most c.stamp.counter) most) low
    cells

most_least : (replica low : ℕ) (cells : List Cell) → low ≤ most_from replica low cells
most_least replica low [] = omega arith
most_least replica low (c ∷ cells) =
    split (eqb c.stamp.replica replica)
    (λ e. let rest = most_least replica (max low c.stamp.counter) cells in rw e (omega (arith, rest)))
    (λ e. rw e (most_least replica low cells))

most_bounds : (replica low : ℕ) (cells : List Cell) (s : Stamp) → s.replica ≡ replica → has_stamp character_of cells s
    ≡ true → s.counter ≤ most_from replica low cells
most_bounds replica low [] s r h = absurd (cc)
most_bounds replica low (c ∷ cells) s r h =
    split (same_stamp c.stamp s)
    (λ e. let same = Rattle.pad_model.proofs.Newer.same_stamp-true c.stamp s e in
    let counter = ap (λ (x : Stamp). x.counter) same in
    let mine : eqb c.stamp.replica replica ≡ true = eq-eqb c.stamp.replica replica (ap (λ (x : Stamp). x.replica) same
    ∙ r) in
    let rest = most_least replica (max low c.stamp.counter) cells in
    rw mine (omega (arith, rest, counter)))
    (λ e. let h' = rw e at h in
    split (eqb c.stamp.replica replica) (λ f. rw f (most_bounds replica (max low c.stamp.counter) cells s r h'))
    (λ f. rw f (most_bounds replica low cells s r h')))

most_within : (replica low most : ℕ) (cells : List Cell) → low ≤ most →
    ((s : Stamp) → s.replica ≡ replica → has_stamp character_of cells s ≡ true → s.counter ≤ most) →
    most_from replica low cells ≤ most
most_within replica low most [] l h = l
most_within replica low most (c ∷ cells) l h =
    let here = λ (e : eqb c.stamp.replica replica ≡ true). h c.stamp (eqb-true c.stamp.replica replica e)
    (ap (λ b. b || has_stamp character_of cells c.stamp) (Rattle.pad_model.proofs.Newer.same_stamp-refl c.stamp)) in
    let later : (s : Stamp) → s.replica ≡ replica → has_stamp character_of cells s ≡ true → s.counter ≤ most =
    λ s r g. h s r (split (same_stamp c.stamp s) (λ f. rw f refl) (λ f. rw f g)) in
    split (eqb c.stamp.replica replica)
    (λ e. let low_here = here e in rw e (most_within replica (max low c.stamp.counter) most cells
    (omega (arith, low_here, l)) later))
    (λ e. rw e (most_within replica low most cells l later))

pub greatest_held : (authors : List Author) (text : List ℕ) (m : Index) (bs : List Block) (replica last : ℕ) →
    IsListed m bs → AllByRecursion (IsWithin (length authors) (length text)) bs
    → ((f s : Stamp) → s.replica ≡ replica → Holds m f s → s.counter ≤ last) →
    (1 ≤ last → (f : Stamp) × Holds m f (record { counter = last; replica = replica })) →
    last ≡ last_of replica (cells_of authors text bs)
greatest_held authors text m bs replica last k w bound there =
    let above = most_within replica 0 last (cells_of authors text bs) (omega arith)
    (λ s r h. let held = cell_held authors text m bs s k w h in bound held.0 s r held.1) in
    elim (cases_lt 0 last) [
      | inl some ↦
          let held = there (omega arith) in
          let below = most_bounds replica 0 (cells_of authors text bs) (record { counter = last; replica = replica })
          refl (held_cell authors text m bs (record { counter = last; replica = replica }) held.0 k w held.1) in
          omega (arith, above, below)
      | inr none ↦ omega (arith, above)
    ]
