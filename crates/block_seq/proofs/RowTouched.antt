-- A block that no slide since a revision touched shows then what it shows now, and at each revision between.
use Rattle.std.proofs.Common.{◌≡◌, ℕ, zero, suc, ◌+◌, ◌≤◌, ◌<◌, Bool, true, false, cond, ◌||◌, List, [], ◌∷◌, ◌++◌, length}
use Rattle.std.proofs.Common.{flat_map, Some, slice_get, is_none, refl, sym, ap, ap₂, ◌∙◌, arith, subst, sum_by}
use Rattle.std.proofs.Common.{take, drop, get_or, ◌⊎◌, inl, inr, ◌==◌, ◌-◌, nat_le}
use Rattle.std.specs.List.{prefix_len}
use Rattle.std.proofs.lemmas.Bool.{cases_lt, or_cases}
use Rattle.std.proofs.lemmas.Bool.Decides.{nat_tests}
use Rattle.std.specs.List.{AllByRecursion}
use Rattle.std.proofs.lemmas.List.Folds.{list_any-append}
use Rattle.std.proofs.lemmas.List.Sums.{sum_by-cons}
use Rattle.pad_model.specs.Pieces.{fewest, join_piece}
use Rattle.pad_model.specs.Operation.{stamps_from}
use Rattle.pad_model.specs.Stamp.{Stamp}
use Rattle.pad_model.specs.Visible.{is_erased}
use Rattle.pad_model.specs.declared.piece.Piece.TheVariants.{Keep}
use Rattle.pad_model.specs.declared.limits.TheConstants.{MAX_COUNTER}
use Rattle.pad_model.specs.declared.who.Author.{Author}
use Rattle.pad_model.proofs.Newer.{split}
use Rattle.pad_model.proofs.Erase.{in_span, is_erased-stamps_from}
use Rattle.ident_index.specs.Index.{Covers, Holds, HoldsNone, Index, IsSound, stamp_behind}
use Rattle.ident_index.proofs.Order.{same_stamps}
use Rattle.blocks.proofs.Parts.{holds_here}
use Rattle.block_seq.proofs.RowLists.{get_here}
use Rattle.blocks.specs.declared.block.Block.{Block}
use Rattle.blocks.specs.Blocks.{IsListed, IsSized, weight_of}
use Rattle.blocks.proofs.Entries.{each_get}
use Rattle.text_history.specs.Slide.{Slide}
use Rattle.text_history.specs.Slides.{Leads, Moves, since}
use Rattle.text_history.proofs.Slides.{since-here, since-passed}
use Rattle.block_seq.specs.PieceLists.{block_pieces}
use Rattle.block_seq.specs.RowPieces.{is_of, is_touched, kept_pieces}
use Rattle.block_seq.specs.RowLists.{shown_stamps}
use Rattle.block_seq.specs.RowSlides.{IsSlid, live_stamps}
use Rattle.block_seq.specs.Rows.{shows}
use Rattle.block_seq.proofs.BlockCells.{covers-in_span, in_span-covers}
use Rattle.block_seq.proofs.RowOrder.{only_rank}

pub take_one : {A : Type 0} (xs : List A) (i j : ℕ) (x : A) → slice_get xs i ≡ Some x → j ≡ i + 1 →
    take j xs ≡ take i xs ++ x ∷ []
take_one [] i j x e is = absurd (cc)
take_one (y ∷ xs) zero zero x e is = absurd (omega arith)
take_one {A = A} (y ∷ xs) zero (suc j) x e is = let same : y ≡ x = cc in let none : j ≡ 0 = omega arith in
    ap₂ (λ (z : A) n. z ∷ take n xs) same none
take_one (y ∷ xs) (suc i) zero x e is = absurd (omega arith)
take_one (y ∷ xs) (suc i) (suc j) x e is = ap (λ l. y ∷ l) (take_one xs i j x e (omega arith))

-- ---- what no slide touched
mid_gone : (front mid back : List Stamp) (s : Stamp) → is_erased mid s ≡ false → is_erased (front ++ (mid ++ back)) s
    ≡ is_erased (front ++ back) s
mid_gone [] mid back s h = list_any-append (λ e. Rattle.pad_model.specs.Stamp.same_stamp e s) mid back
    ∙ ap (λ v. v || is_erased back s) h
mid_gone (x ∷ front) mid back s h = ap (λ v. Rattle.pad_model.specs.Stamp.same_stamp x s || v)
    (mid_gone front mid back s h)

moved : (slide : Slide) (old new : List Stamp) (s : Stamp) → Moves slide old new → is_of s slide ≡ false →
    is_erased new s ≡ is_erased old s
moved slide old new s m h =
    let gone = mid_gone m.front (stamps_from slide.first slide.len) m.back s h in
    ap (λ l. is_erased l s) m.after
    ∙ split (slide.shows)
    (λ e. rw e gone)
    (λ e. rw e (sym gone))
    ∙ sym (ap (λ l. is_erased l s) m.before)

-- a stamp that no slide touched is among the later ones just where it was among the older ones
pub untouched : (slides : List Slide) (old new : List Stamp) (s : Stamp) → Leads slides old new →
    is_touched slides s ≡ false → is_erased new s ≡ is_erased old s
untouched [] old new s leads h = ap (λ l. is_erased l s) (sym leads)
untouched (x ∷ slides) old new s leads h =
    split (is_of s x)
    (λ e. let never = rw e at h in absurd (cc))
    (λ e. let rest = rw e at h in untouched slides leads.0 new s leads.2 rest ∙ moved x old leads.0 s leads.1 e)

-- ---- a stamp of one block alone
abbrev pub stamps_if : (Block → Bool) → Block → List Stamp
stamps_if t b = cond (t b) (stamps_from b.first b.len) []

missed : (t : Block → Bool) (x : Block) (s : Stamp) → (Covers x.first x.len s → ⊥) → is_erased (stamps_if t x) s ≡ false
missed t x s none =
    split (t x)
    (λ e. rw e (is_erased-stamps_from x.first x.len s
    ∙ split (in_span x.first x.len s) (λ f. absurd (none (in_span-covers x.first x.len s f))) (λ f. f)))
    (λ e. rw e refl)

none_in : (t : Block → Bool) (bs : List Block) (s : Stamp)
    → ((i : ℕ) (x : Block) → slice_get bs i ≡ Some x → Covers x.first x.len s → ⊥)
    → is_erased (flat_map (stamps_if t) bs) s ≡ false
none_in t [] s none = refl
none_in t (x ∷ bs) s none =
    list_any-append (λ e. Rattle.pad_model.specs.Stamp.same_stamp e s) (stamps_if t x) (flat_map (stamps_if t) bs)
    ∙ ap₂ (λ a b. a || b) (missed t x s (none 0 x refl)) (none_in t bs s (λ i y e. none (suc i) y e))

sole : (t : Block → Bool) (bs : List Block) (r : ℕ) (b : Block) → slice_get bs r ≡ Some b → 1 ≤ b.len
    → ((i : ℕ) (x : Block) → slice_get bs i ≡ Some x → Covers x.first x.len b.first → i ≡ r)
    → is_erased (flat_map (stamps_if t) bs) b.first ≡ t b
sole t [] r b e h one = absurd (cc)
sole t (x ∷ bs) zero b e h one =
    let same : x ≡ b = cc in
    let whole : is_erased (stamps_from b.first b.len) b.first ≡ true =
    is_erased-stamps_from b.first b.len b.first ∙ covers-in_span b.first b.len b.first (refl, omega arith, omega arith) in
    list_any-append (λ e. Rattle.pad_model.specs.Stamp.same_stamp e b.first) (stamps_if t x) (flat_map (stamps_if t) bs)
    ∙ ap₂ (λ a c. a || c)
    (ap (λ (y : Block). is_erased (stamps_if t y) b.first) same
    ∙ split (t b) (λ f. rw f whole) (λ f. rw f refl))
    (none_in t bs b.first (λ i y g c. let never = one (suc i) y g c in absurd (omega arith)))
    ∙ or_false (t b)
  where
    or_false : (v : Bool) → (v || false) ≡ v
    or_false true = refl
    or_false false = refl
sole t (x ∷ bs) (suc r) b e h one =
    list_any-append (λ e. Rattle.pad_model.specs.Stamp.same_stamp e b.first) (stamps_if t x) (flat_map (stamps_if t) bs)
    ∙ ap₂ (λ a c. a || c)
    (missed t x b.first (λ c. let never = one 0 x refl c in absurd (omega arith)))
    (sole t bs r b e h (λ i y g c. let next = one (suc i) y g c in omega arith))

-- what no slide touched none of the later ones did
touched-drop : (slides : List Slide) (n : ℕ) (s : Stamp) → is_touched slides s ≡ false →
    is_touched (drop n slides) s ≡ false
touched-drop [] zero s h = refl
touched-drop [] (suc n) s h = refl
touched-drop (x ∷ slides) zero s h = h
touched-drop (x ∷ slides) (suc n) s h = split (is_of s x)
    (λ e. let never = rw e at h in absurd (cc))
    (λ e. let rest = rw e at h in touched-drop slides n s rest)

touched-later : (slides : List Slide) (from rev : ℕ) (s : Stamp) → from ≤ rev →
    is_touched (since from slides) s ≡ false → is_touched (since rev slides) s ≡ false
touched-later [] from rev s low h = refl
touched-later (x ∷ slides) from rev s low h = elim (cases_lt from x.rev) [
  | inl later ↦
      let all = sym (ap (λ l. is_touched l s) (since-here from x slides later)) ∙ h in
      touched-drop (x ∷ slides) (prefix_len (λ y. nat_le y.rev rev) (x ∷ slides)) s all
  | inr old ↦
      let rest = sym (ap (λ l. is_touched l s) (since-passed from x slides old)) ∙ h in
      ap (λ l. is_touched l s) (since-passed rev x slides (omega (arith, old, low)))
      ∙ touched-later slides from rev s low rest
]

-- a block whose first stamp no slide since a revision touched shows at each later one what it shows now
pub untouched-block : (slides : List Slide) (bs : List Block) (from rev : ℕ) (m : Index) (r : ℕ) (b : Block) →
    IsSlid slides bs → from ≤ rev → IsListed m bs → IsSound m → slice_get bs r ≡ Some b →
    is_touched (since from slides) b.first ≡ false → shows rev b ≡ is_none b.died
untouched-block slides bs from rev m r b slid low listed sound e h =
    let sized = each_get IsSized bs r b listed.sized e in
    let long = sized.0 in
    let one = only_rank m bs r b b.first listed sound e (refl, omega arith, omega arith) in
    let later = touched-later slides from rev b.first low h in
    sym (sole (shows rev) bs r b e long one)
    ∙ sym (untouched (since rev slides) (flat_map (shown_stamps rev) bs) (flat_map live_stamps bs) b.first
    (slid.leads rev) later)
    ∙ sole (λ x. is_none x.died) bs r b e long one

-- ---- blocks that nothing touched
abbrev pub IsUntouched : ℕ → ℕ → Block → Type 0
IsUntouched rev to b = (shows rev b ≡ is_none b.died) × (shows to b ≡ is_none b.died)

pub kept-some : (n : ℕ) → 1 ≤ n → kept_pieces n ≡ Keep n ∷ []
kept-some n h = let test : (n == 0) ≡ false = grind (arith, nat_tests) in rw test refl

join-kept : (n w : ℕ) → 1 ≤ n → join_piece (Keep n) (fewest (kept_pieces w)) ≡ fewest (kept_pieces (n + w))
join-kept n zero h =
    ap (λ k. Keep k ∷ []) (let same : n ≡ n + 0 = omega arith in same)
    ∙ ap fewest (sym (kept-some (n + 0) (omega arith)))
join-kept n (suc w) h =
    ap (λ l. join_piece (Keep n) (fewest l)) (kept-some (suc w) (omega arith))
    ∙ ap fewest (sym (kept-some (n + suc w) (omega arith)))

-- blocks that nothing touched are their weight kept
pub kept-blocks : (rev to : ℕ) (authors : List Author) (text : List ℕ) (bs : List Block) →
    AllByRecursion (IsUntouched rev to) bs → AllByRecursion IsSized bs
    → fewest (flat_map (block_pieces rev to authors text) bs) ≡ fewest (kept_pieces (sum_by weight_of bs))
kept-blocks rev to authors text [] u z = refl
kept-blocks rev to authors text (b ∷ bs) u z =
    let rest = kept-blocks rev to authors text bs u.1 z.1 in
    let same = u.0.0 in
    let still = u.0.1 in
    let sum = sum_by-cons weight_of b bs in
    split (is_none b.died)
    (λ e. let here : shows rev b ≡ true = same ∙ e in
    let there : shows to b ≡ true = still ∙ e in
    let heavy : weight_of b ≡ b.len = rw e refl in
    let first : fewest (flat_map (block_pieces rev to authors text) (b ∷ bs)) ≡ fewest (kept_pieces
    (b.len + sum_by weight_of bs)) = rw (here, there) (ap (join_piece (Keep b.len)) rest
    ∙ join-kept b.len (sum_by weight_of bs) z.0.0) in
    first ∙ ap (λ k. fewest (kept_pieces k)) (ap (λ v. v + sum_by weight_of bs) (sym heavy) ∙ sym sum))
    (λ e. let here : shows rev b ≡ false = same ∙ e in
    let there : shows to b ≡ false = still ∙ e in
    let light : weight_of b ≡ 0 = rw e refl in
    let first : fewest (flat_map (block_pieces rev to authors text) (b ∷ bs)) ≡ fewest (kept_pieces
    (sum_by weight_of bs)) = rw (here, there) rest in
    first ∙ ap (λ k. fewest (kept_pieces k)) ((let plain : sum_by weight_of bs ≡ 0 + sum_by weight_of bs =
    omega arith in plain) ∙ ap (λ v. v + sum_by weight_of bs) (sym light) ∙ sym sum))

-- the stretches of slides that lead are within the limit
pub sized-slides : (slides : List Slide) (old new : List Stamp) → Leads slides old new →
    AllByRecursion (λ s. s.first.counter + s.len ≤ MAX_COUNTER + 1) slides
sized-slides [] old new leads = tt
sized-slides (x ∷ slides) old new leads = let small = leads.1.sized in
    (small, sized-slides slides leads.0 new leads.2)

-- ---- a search for a stamp of a stretch
module _ (m : Index) (bs : List Block) (r offset : ℕ) (b : Block) (first stamp : Stamp) (listed : IsListed m bs)
    (there : slice_get bs r ≡ Some b) (at : stamp ≡ stamp_behind first offset)
    (past : first.counter + offset ≤ b.first.counter) where
  begins : Covers b.first b.len b.first
  begins = let sized = each_get IsSized bs r b listed.sized there in let long = sized.0 in
      (refl, omega arith, omega arith)

  -- finds the block that begins in the part of the stretch that its block has
  pub found-rank : (rank off : ℕ) (x : Block) → IsSound m → slice_get bs rank ≡ Some x → stamp ≡ stamp_behind x.first off →
      off < x.len → Covers first (offset + (x.len - off)) b.first → r ≡ rank
  found-rank rank off x sound e is h c =
      let counter = ap (λ (k : Stamp). k.counter) is in
      let replica = ap (λ (k : Stamp). k.replica) is in
      let counter' = ap (λ (k : Stamp). k.counter) at in
      let replica' = ap (λ (k : Stamp). k.replica) at in
      let high = c.2 in
      only_rank m bs rank x b.first listed sound e (sym replica ∙ replica' ∙ c.0, omega arith, omega arith) r b there
      begins

  -- or no block begins there
  pub none-here : HoldsNone m stamp → Covers first (offset + 1) b.first → ⊥
  none-here none c =
      let counter' = ap (λ (k : Stamp). k.counter) at in
      let replica' = ap (λ (k : Stamp). k.replica) at in
      let high = c.2 in
      let same : b.first ≡ stamp = same_stamps b.first stamp (omega arith) (sym (replica' ∙ c.0)) in
      none b.first (subst (λ (s : Stamp). Holds m b.first s) same (holds_here m bs r b b.first listed there begins))

-- what one slide more touches
pub touched-more : (slides : List Slide) (i : ℕ) (slide : Slide) (s : Stamp) → i < length slides →
    slide ≡ get_or slides i slide → is_touched (take (i + 1) slides) s ≡ true
    → (is_touched (take i slides) s ≡ true) ⊎ Covers slide.first slide.len s
touched-more slides i slide s h is touched =
    let one = take_one slides i (i + 1) slide (get_here slides i slide h is) refl in
    let both : (is_touched (take i slides) s || (is_of s slide || false)) ≡ true =
    sym (ap (λ l. is_touched l s) one ∙ list_any-append (is_of s) (take i slides) (slide ∷ [])) ∙ touched in
    elim (or_cases _ _ both) [
      | inl old ↦ inl old
      | inr new ↦ elim (or_cases _ _ new) [
        | inl here ↦ inr (in_span-covers slide.first slide.len s (sym (is_erased-stamps_from slide.first slide.len s)
            ∙ here))
        | inr never ↦ absurd (cc)
      ]
    ]
