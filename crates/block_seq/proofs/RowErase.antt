-- Deletions over blocks.
use Rattle.std.proofs.Common.{◌≡◌, ℕ, zero, suc, ◌+◌, ◌-◌, ◌≤◌, ◌<◌, inl, inr, Bool, true, false, cond, ◌&&◌, List, []}
use Rattle.std.proofs.Common.{◌∷◌, ◌++◌, length, take, map, sum_by, count_by, flat_map, is_none, Option, Some, refl}
use Rattle.std.proofs.Common.{sym, ap, ap₂, ◌∙◌, subst, arith, slice_get, slice_set}
use Rattle.std.specs.List.{AllByRecursion, list_all, list_any}
use Rattle.std.proofs.lemmas.Bool.{cases_lt, and_from}
use Rattle.std.proofs.lemmas.List.Sums.{sum_by-cons}
use Rattle.pad_model.specs.Stamp.{Stamp}
use Rattle.pad_model.specs.Character.{next}
use Rattle.pad_model.specs.Operation.{stamps_from, span_stamps}
use Rattle.pad_model.specs.declared.limits.TheConstants.{MAX_COUNTER}
use Rattle.pad_model.specs.declared.op.Span.{Span}
use Rattle.pad_model.proofs.Newer.{split}
use Rattle.ident_index.specs.Index.{Index, Covers, Holds, stamp_behind}
use Rattle.ident_index.proofs.Order.{same_stamps}
use Rattle.blocks.specs.declared.block.Block.{Block}
use Rattle.blocks.specs.Blocks.{IsSized, IsListed, IsSpot, IsEdge}
use Rattle.blocks.proofs.Entries.{each_get}
use Rattle.blocks.proofs.Parts.{holds_here, what_holds, some_block}
use Rattle.std.proofs.Common.{get_or, ◌||◌}
use Rattle.std.proofs.lemmas.List.{map-append, take_more}
use Rattle.std.proofs.lemmas.List.Sums.{sum_by-append}
use Rattle.block_seq.proofs.RowNow.{erased_by, later_by, clock-erased}
use Rattle.pad_model.specs.Cell.{Cell, IsInOrder, erased_at, is_hidden_by, without_spans, IsBy, clock_of}
use Rattle.pad_model.specs.Visible.{is_erased}
use Rattle.pad_model.specs.declared.who.Author.{Author}
use Rattle.pad_model.proofs.Each.{each-append, each-imply}
use Rattle.pad_model.proofs.Erase.{in_span, is_erased-spans, erased_at-died, IsInOrder-without}
use Rattle.blocks.specs.Blocks.{IsKept, KeepsEdges}
use Rattle.blocks.specs.Cells.{author_at, run_cells, stretch, block_cells, cells_of, IsWithin}
use Rattle.block_seq.proofs.BlockCells.{covers-in_span, in_span-covers, length-stretch}
use Rattle.block_seq.specs.Rows.{IsBlockSeq, IsCutOut, is_killed, killed, hidden_len}

-- ---- the stamps of a span, one by one
pub behind_none : (first : Stamp) → stamp_behind first 0 ≡ first
behind_none first = same_stamps _ _ (omega arith) refl

behind_next : (first : Stamp) (k : ℕ) → stamp_behind (next first) k ≡ stamp_behind first (suc k)
behind_next first k = same_stamps _ _ (omega arith) refl

pub each_stamp : (t : Stamp → Bool) (first : Stamp) (n : ℕ) → ((k : ℕ) → k < n → t (stamp_behind first k) ≡ true) →
    list_all t (stamps_from first n) ≡ true
each_stamp t first zero h = refl
each_stamp t first (suc n) h =
    and_from _ _ (ap t (sym (behind_none first)) ∙ h 0 (omega arith))
    (each_stamp t (next first) n (λ k l. ap t (behind_next first k) ∙ h (suc k) (omega arith)))

pub one_missing : (t : Stamp → Bool) (first : Stamp) (n k : ℕ) → k < n → t (stamp_behind first k) ≡ false →
    list_all t (stamps_from first n) ≡ false
one_missing t first zero k l h = absurd (omega arith)
one_missing t first (suc n) zero l h = rw (ap t (sym (behind_none first)) ∙ h) refl
one_missing t first (suc n) (suc k) l h =
    ap (λ b. t first && b) (one_missing t (next first) n k (omega arith) (ap t (behind_next first k) ∙ h))
    ∙ and_false (t first)
  where
    and_false : (b : Bool) → (b && false) ≡ false
    and_false true = refl
    and_false false = refl

-- what a block adds to the stamps that are there
pub more_there : (m : Index) (bs : List Block) (first : Stamp) (done rank offset more : ℕ) (b : Block) → IsListed m bs →
    slice_get bs rank ≡ Some b → IsSpot bs (stamp_behind first done) rank offset → more ≡ done + (b.len - offset)
    → ((k : ℕ) → k < done → (f : Stamp) × Holds m f (stamp_behind first k)) → (k : ℕ) → k < more → (f : Stamp)
    × Holds m f (stamp_behind first k)
more_there m bs first done rank offset more b listed e spot is so_far k l =
    elim (cases_lt k done) [
      | inl before ↦ so_far k before
      | inr from ↦
          let found = some_block (slice_get bs rank)
          (λ (x : Block). (stamp_behind first done ≡ stamp_behind x.first offset) × (offset < x.len)) spot in
          let same : found.0 ≡ b = cc (found.1, e) in
          let at : stamp_behind first done ≡ stamp_behind b.first offset =
          subst (λ (x : Block). stamp_behind first done ≡ stamp_behind x.first offset) same found.2.0 in
          let counter : first.counter + done ≡ b.first.counter + offset = ap (λ (x : Stamp). x.counter) at in
          let replica : first.replica ≡ b.first.replica = ap (λ (x : Stamp). x.replica) at in
          let inside : offset < b.len = subst (λ (x : Block). offset < x.len) same found.2.1 in
          (b.first, holds_here m bs rank b (stamp_behind first k) listed e (sym replica, omega arith, omega arith))
    ]

pub set_same : (bs : List Block) (i : ℕ) (b : Block) → slice_get bs i ≡ Some b → slice_set bs i b ≡ bs
set_same [] i b e = refl
set_same (x ∷ bs) zero b e = let same : x ≡ b = cc in ap (λ (y : Block). y ∷ bs) (sym same)
set_same (x ∷ bs) (suc i) b e = ap (λ l. x ∷ l) (set_same bs i b e)

-- no block holds a stamp behind the greatest counter
pub edge_past : (m : Index) (bs : List Block) (s : Stamp) → IsListed m bs → MAX_COUNTER < s.counter → IsEdge m s
edge_past m bs s k past first held =
    let found = what_holds m bs first s k held in
    let sized = each_get IsSized bs found.0 found.1 k.sized found.2 in
    let covers = found.3 in
    let ends = sized.1 in
    absurd (omega arith)

-- ---- the spans that are cut out
pub cut_out_more : (m n : Index) (spans : List Span) (i j : ℕ) (span : Span) → i < length spans →
    span ≡ get_or spans i span → j ≡ i + 1 → KeepsEdges m n → AllByRecursion (IsCutOut m) (take i spans) →
    IsCutOut n span → AllByRecursion (IsCutOut n) (take j spans)
cut_out_more m n spans i j span h is next keeps so_far here =
    subst (λ l. AllByRecursion (IsCutOut n) l) (sym (ap (λ k. take k spans) next ∙ take_more spans i span h))
    (each-append (IsCutOut n) (take i spans) (get_or spans i span ∷ [])
    (each-imply (IsCutOut m) (IsCutOut n) (λ s c. (keeps s.first c.0, keeps (stamp_behind s.first s.len) c.1))
    (take i spans) so_far) (subst (IsCutOut n) is here, tt))

-- a block is in a span as its first stamp is
span_aligned : (m : Index) (bs : List Block) (i : ℕ) (b : Block) (span : Span) (s : Stamp) → IsListed m bs →
    slice_get bs i ≡ Some b → IsCutOut m span → Covers b.first b.len s → in_span span.first span.len s
    ≡ in_span span.first span.len b.first
span_aligned m bs i b span s k e cut covers =
    split (in_span span.first span.len b.first)
    (λ first_in. let c = in_span-covers span.first span.len b.first first_in in
    elim (cases_lt s.counter (span.first.counter + span.len)) [
      | inl inside ↦ covers-in_span span.first span.len s (c.0 ∙ covers.0, omega arith, inside) ∙ sym first_in
      | inr behind ↦
          let begins = cut.1 b.first (holds_here m bs i b (stamp_behind span.first span.len) k e (
            sym c.0,
            omega arith,
            omega arith,
          )) in
          let same = ap (λ (x : Stamp). x.counter) begins in
          absurd (omega arith)
    ])
    (λ first_out. split (in_span span.first span.len s)
    (λ in'. let c = in_span-covers span.first span.len s in' in
    elim (cases_lt b.first.counter span.first.counter) [
      | inl before ↦
          let begins = cut.0 b.first (holds_here m bs i b span.first k e (
            covers.0 ∙ sym c.0,
            omega arith,
            omega arith,
          )) in
          let same = ap (λ (x : Stamp). x.counter) begins in
          absurd (omega arith)
      | inr from ↦
          let there = covers-in_span span.first span.len b.first (c.0 ∙ sym covers.0, from, omega arith) in
          absurd (cc (there, first_out))
    ])
    (λ out. out ∙ sym first_out))

any_aligned : (m : Index) (bs : List Block) (i : ℕ) (b : Block) (spans : List Span) (s : Stamp) → IsListed m bs →
    slice_get bs i ≡ Some b → AllByRecursion (IsCutOut m) spans → Covers b.first b.len s
    → list_any (λ span. in_span span.first span.len s) spans
    ≡ list_any (λ span. in_span span.first span.len b.first) spans
any_aligned m bs i b [] s k e cut covers = refl
any_aligned m bs i b (span ∷ spans) s k e cut covers =
    ap₂ (λ x y. x || y) (span_aligned m bs i b span s k e cut.0 covers) (any_aligned m bs i b spans s k e cut.1 covers)

abbrev Aligned : List Span → Block → Type 0
Aligned spans b = (s : Stamp) → Covers b.first b.len s → is_erased (flat_map span_stamps spans) s
    ≡ is_erased (flat_map span_stamps spans) b.first

each_at : (P : Block → Type 0) (bs : List Block) → ((i : ℕ) (b : Block) → slice_get bs i ≡ Some b → P b) →
    AllByRecursion P bs
each_at P [] h = tt
each_at P (b ∷ bs) h = (h 0 b refl, each_at P bs (λ i x e. h (suc i) x e))

pub all_aligned : (m : Index) (bs : List Block) (spans : List Span) → IsListed m bs →
    AllByRecursion (IsCutOut m) spans → AllByRecursion (Aligned spans) bs
all_aligned m bs spans k cut =
    each_at (Aligned spans) bs (λ i b e s covers. is_erased-spans spans s ∙ any_aligned m bs i b spans s k e cut covers
    ∙ sym (is_erased-spans spans b.first))

-- ---- what dies of a block
module _ (rev : ℕ) (spans : List Span) (author : Author) (born : ℕ) (died : Option ℕ) (v : Bool) where
  run_killed : (first : Stamp) (p : Option Stamp) (text : List ℕ) →
      ((s : Stamp) → Covers first (length text) s → is_erased (flat_map span_stamps spans) s ≡ v)
      → map (erased_at rev spans) (run_cells author born died first p text)
      ≡ run_cells author born (cond (v && is_none died) (Some rev) died) first p text
  run_killed first p [] h = refl
  run_killed first p (c ∷ text) h =
      ap₂ (λ (x : Cell) l. x ∷ l)
      (erased_at-died rev spans (record { stamp = first; parent = p; character = c; author = author; born = born; died = died })
      ∙ ap (λ b. let it : Cell = record { stamp = first; parent = p; character = c; author = author; born = born; died = cond (b && is_none died) (Some rev) died } in it) (h first (refl, omega arith, omega arith)))
      (run_killed (next first) (Some first) text (λ s covers. h s (covers.0, omega arith, omega arith)))

  run_hidden : (first : Stamp) (p : Option Stamp) (text : List ℕ) →
      ((s : Stamp) → Covers first (length text) s → is_erased (flat_map span_stamps spans) s ≡ v)
      → count_by (is_hidden_by spans) (run_cells author born died first p text) ≡ cond (v && is_none died)
      (length text) 0
  run_hidden first p [] h = split (v && is_none died) (λ e. rw e refl) (λ e. rw e refl)
  run_hidden first p (c ∷ text) h =
      let rest = run_hidden (next first) (Some first) text (λ s covers. h s (covers.0, omega arith, omega arith)) in
      let here = h first (refl, omega arith, omega arith) in
      sum_by-cons (λ (x : Cell). cond (is_hidden_by spans x) 1 0)
      (record { stamp = first; parent = p; character = c; author = author; born = born; died = died })
      (run_cells author born died (next first) (Some first) text)
      ∙ (rw (here, rest) (split (v && is_none died) (λ e. rw e (omega arith)) (λ e. rw e (omega arith))))

-- the cells of marked blocks are those after the deletion
pub killed_cells : (rev : ℕ) (spans : List Span) (authors : List Author) (text : List ℕ) (bs : List Block) →
    AllByRecursion (IsWithin (length authors) (length text)) bs → AllByRecursion (Aligned spans) bs
    → cells_of authors text (map (killed rev spans) bs) ≡ without_spans rev spans (cells_of authors text bs)
killed_cells rev spans authors text [] w a = refl
killed_cells rev spans authors text (b ∷ bs) w a =
    let v = is_erased (flat_map span_stamps spans) b.first in
    let here : map (erased_at rev spans) (block_cells authors text b) ≡ run_cells (author_at authors b.author) b.born
    (cond (v && is_none b.died) (Some rev) b.died) b.first b.parent (stretch text b) =
    run_killed rev spans (author_at authors b.author) b.born b.died v b.first b.parent (stretch text b)
    (λ s c. a.0 s (subst (λ n. Covers b.first n s) (length-stretch text b w.0.1) c))
    in
    let marked : block_cells authors text (killed rev spans b) ≡ run_cells (author_at authors b.author) b.born
    (cond (v && is_none b.died) (Some rev) b.died) b.first b.parent (stretch text b) =
    split (v && is_none b.died) (λ e. rw e refl) (λ e. rw e refl)
    in
    ap₂ (λ x y. x ++ y) (marked ∙ sym here) (killed_cells rev spans authors text bs w.1 a.1)
    ∙ sym (map-append (erased_at rev spans) (block_cells authors text b) (cells_of authors text bs))

pub killed_count : (spans : List Span) (authors : List Author) (text : List ℕ) (bs : List Block) →
    AllByRecursion (IsWithin (length authors) (length text)) bs → AllByRecursion (Aligned spans) bs
    → count_by (is_hidden_by spans) (cells_of authors text bs) ≡ sum_by (hidden_len spans) bs
killed_count spans authors text [] w a = refl
killed_count spans authors text (b ∷ bs) w a =
    let v = is_erased (flat_map span_stamps spans) b.first in
    let rest = killed_count spans authors text bs w.1 a.1 in
    let here : count_by (is_hidden_by spans) (block_cells authors text b) ≡ hidden_len spans b =
    run_hidden 0 spans (author_at authors b.author) b.born b.died v b.first b.parent (stretch text b)
    (λ s c. a.0 s (subst (λ n. Covers b.first n s) (length-stretch text b w.0.1) c))
    ∙ ap (λ n. cond (v && is_none b.died) n 0) (length-stretch text b w.0.1)
    in
    sum_by-append (λ (x : Cell). cond (is_hidden_by spans x) 1 0) (block_cells authors text b)
    (cells_of authors text bs) ∙ ap₂ (λ x y. x + y) here rest ∙ sym (sum_by-cons (hidden_len spans) b bs)

killed_within : (rev : ℕ) (spans : List Span) (m n : ℕ) (bs : List Block) → AllByRecursion (IsWithin m n) bs →
    AllByRecursion (IsWithin m n) (map (killed rev spans) bs)
killed_within rev spans m n [] w = tt
killed_within rev spans m n (b ∷ bs) w = (
  split (is_killed spans b) (λ e. rw e w.0) (λ e. rw e w.0),
  killed_within rev spans m n bs w.1,
)

killed_sum : (rev : ℕ) (spans : List Span) (bs : List Block) → sum_by (λ b. b.len) (map (killed rev spans) bs)
    ≡ sum_by (λ b. b.len) bs
killed_sum rev spans [] = refl
killed_sum rev spans (b ∷ bs) =
    sum_by-cons (λ (x : Block). x.len) (killed rev spans b) (map (killed rev spans) bs)
    ∙ ap₂ (λ x y. x + y) (let here : (killed rev spans b).len ≡ b.len = split (is_killed spans b) (λ e. rw e refl)
    (λ e. rw e refl) in here) (killed_sum rev spans bs)
    ∙ sym (sum_by-cons (λ (x : Block). x.len) b bs)

-- what a deletion leaves
pub row_killed : {latest clock : ℕ} (most rev : ℕ) (spans : List Span) (authors : List Author) (text : List ℕ)
    (m : Index) (bs after : List Block) (now : List Cell) → latest ≤ most → rev ≤ most →
    IsBlockSeq latest clock authors text m bs → cells_of authors text bs ≡ now → AllByRecursion (IsCutOut m) spans →
    IsKept m after → after ≡ map (killed rev spans) bs
    → IsBlockSeq most clock authors text m after × (cells_of authors text after ≡ without_spans rev spans now)
row_killed {latest} {clock} most rev spans authors text m bs after now latest_is rev_is s is cut kept marked =
    let cells = ap (cells_of authors text) marked ∙ killed_cells rev spans authors text bs s.within
    (all_aligned m bs spans s.kept.listed cut) ∙ ap (without_spans rev spans) is in (
      record {
        kept = kept;
        within = subst (AllByRecursion (IsWithin (length authors) (length text))) (sym marked)
            (killed_within rev spans (length authors) (length text) bs s.within);
        full = s.full ∙ sym (killed_sum rev spans bs) ∙ ap (sum_by (λ (b : Block). b.len)) (sym marked);
        order = subst IsInOrder (sym cells) (IsInOrder-without rev spans now (subst IsInOrder is s.order));
        dated = subst (AllByRecursion (IsBy most)) (sym cells)
            (erased_by rev most spans now rev_is
            (later_by latest most now latest_is (subst (AllByRecursion (IsBy latest)) is s.dated)));
        newest = ap clock_of cells ∙ clock-erased rev 0 spans now ∙ sym (ap clock_of is) ∙ s.newest;
      },
      cells,
    )
