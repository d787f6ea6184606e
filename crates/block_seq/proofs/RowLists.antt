-- Lists of runs and spans that grow at their end, and what the blocks show of authors and stamps.
use Rattle.std.proofs.Common.{◌≡◌, ℕ, zero, suc, ◌+◌, ◌-◌, ◌≤◌, ◌<◌, true, false, min, List, [], ◌∷◌, ◌++◌, length}
use Rattle.std.proofs.Common.{take, drop, map, flat_map, sum_by, replicate, Option, Some, refl, sym, ap, ap₂, ◌∙◌}
use Rattle.std.proofs.Common.{arith, slice_get, slice_set, get_or, append_assoc, eq-eqb}
use Rattle.std.specs.List.{AllByRecursion}
use Rattle.std.proofs.lemmas.Bool.{and_from}
use Rattle.std.proofs.lemmas.List.{map-append, take-map, drop-map}
use Rattle.std.proofs.lemmas.List.Sums.{sum_by-cons}
use Rattle.std.proofs.lemmas.Slice.Eq.{bytes_eq-Decides}
use Rattle.pad_model.specs.Cell.{Cell, cells_at}
use Rattle.pad_model.specs.Character.{next}
use Rattle.pad_model.specs.Operation.{stamps_from}
use Rattle.pad_model.specs.Stamp.{Stamp, same_stamp}
use Rattle.pad_model.specs.Visible.{same_author, join_run, runs, join_span, spans}
use Rattle.pad_model.specs.declared.op.Span.{Span}
use Rattle.pad_model.specs.declared.who.Author.{Author}
use Rattle.pad_model.specs.declared.who.AuthorRun.{AuthorRun}
use Rattle.pad_model.proofs.Newer.{split, same_stamp-refl, same_stamp-true}
use Rattle.ident_index.specs.Index.{stamp_behind}
use Rattle.ident_index.proofs.Order.{same_stamps}
use Rattle.blocks.specs.declared.block.Block.{Block}
use Rattle.blocks.specs.Cells.{author_at, run_cells, stretch, cells_of, IsWithin}
use Rattle.text_history.proofs.Carrying.{length-stamps}
use Rattle.block_seq.specs.Rows.{shows, shown_len}
use Rattle.block_seq.specs.RowLists.{shown_by, shown_stamps, with_more, with_stamps}
use Rattle.block_seq.proofs.BlockCells.{length-stretch}
use Rattle.block_seq.proofs.Fronts.{same_author-true}
use Rattle.block_seq.proofs.RowReads.{shown_cells, cells_at-blocks}

same_author-refl : (a : Author) → same_author a a ≡ true
same_author-refl a = and_from _ _ ((bytes_eq-Decides a.name a.name).1 refl) (eq-eqb a.origin a.origin refl)

-- ---- runs
join_run-more : (d a : Author) (n : ℕ) (rs : List AuthorRun) → join_run d (with_more rs a n)
    ≡ with_more (join_run d rs) a n
join_run-more d a n [] =
    split (same_author d a)
    (λ e. rw e (ap₂ (λ (who : Author) k. (let it : AuthorRun = record { author = who; len = k } in it) ∷ [])
    (sym (same_author-true d a e)) (let m : n + 1 ≡ 1 + n = omega arith in m)))
    (λ e. rw e refl)
join_run-more d a n (r ∷ []) =
    split (same_author d r.author)
    (λ e. split (same_author r.author a)
    (λ f. rw (e, f, e) (ap (λ k. (let it : AuthorRun = record r { len = k } in it) ∷ [])
    (let m : r.len + n + 1 ≡ r.len + 1 + n = omega arith in m)))
    (λ f. rw (e, f, e) refl))
    (λ e. split (same_author r.author a) (λ f. rw (e, f, e) refl) (λ f. rw (e, f, e) refl))
join_run-more d a n (r ∷ s ∷ rs) = split (same_author d r.author) (λ e. rw e refl) (λ e. rw e refl)

runs-replicate : (a : Author) (n : ℕ) → runs (replicate (suc n) a)
    ≡ (let it : AuthorRun = record { author = a; len = suc n } in it) ∷ []
runs-replicate a zero = refl
runs-replicate a (suc n) =
    ap (join_run a) (runs-replicate a n)
    ∙ (rw (same_author-refl a) (ap (λ k. (let it : AuthorRun = record { author = a; len = k } in it) ∷ [])
    (let m : suc n + 1 ≡ suc (suc n) = omega arith in m)))

-- the runs of authors and n more of one author
pub runs-more : (done : List Author) (a : Author) (n : ℕ) → 1 ≤ n → runs (done ++ replicate n a)
    ≡ with_more (runs done) a n
runs-more [] a zero h = absurd (omega arith)
runs-more [] a (suc n) h = runs-replicate a n
runs-more (d ∷ done) a n h = ap (join_run d) (runs-more done a n h) ∙ join_run-more d a n (runs done)

pub sum-more : (rs : List AuthorRun) (a : Author) (n : ℕ) → sum_by (λ r. r.len) (with_more rs a n)
    ≡ sum_by (λ r. r.len) rs + n
sum-more [] a n = sum_by-cons (λ (r : AuthorRun). r.len) (record { author = a; len = n }) []
    ∙ (let m : n + 0 ≡ 0 + n = omega arith in m)
sum-more (r ∷ []) a n =
    split (same_author r.author a)
    (λ e. rw e (omega arith))
    (λ e. rw e (omega arith))
sum-more (r ∷ s ∷ rs) a n =
    let rest = sum-more (s ∷ rs) a n in
    rw (
      sum_by-cons (λ (x : AuthorRun). x.len) r (with_more (s ∷ rs) a n),
      sum_by-cons (λ (x : AuthorRun). x.len) r (s ∷ rs),
    ) (omega (arith, rest))

-- the last run takes them, or a new one
pub more-joins : (rs : List AuthorRun) (i : ℕ) (r : AuthorRun) (a : Author) (n : ℕ) → slice_get rs i ≡ Some r →
    suc i ≡ length rs → same_author r.author a ≡ true → with_more rs a n ≡ slice_set rs i (record r { len = r.len + n })
more-joins [] i r a n e l h = absurd (cc)
more-joins (x ∷ []) zero r a n e l h = let same : x ≡ r = cc in let here : same_author x.author a ≡ true =
    ap (λ (y : AuthorRun). same_author y.author a) same ∙ h in
    rw here (ap (λ (y : AuthorRun). (let it : AuthorRun = record y { len = y.len + n } in it) ∷ []) same)
more-joins (x ∷ []) (suc i) r a n e l h = absurd (omega arith)
more-joins (x ∷ y ∷ rs) zero r a n e l h = absurd (omega arith)
more-joins (x ∷ y ∷ rs) (suc i) r a n e l h = ap (λ l. x ∷ l) (more-joins (y ∷ rs) i r a n e (omega arith) h)

pub more-apart : (rs : List AuthorRun) (i : ℕ) (r : AuthorRun) (a : Author) (n : ℕ) → slice_get rs i ≡ Some r →
    suc i ≡ length rs → same_author r.author a ≡ false → with_more rs a n ≡ rs
    ++ (let it : AuthorRun = record { author = a; len = n } in it) ∷ []
more-apart [] i r a n e l h = absurd (cc)
more-apart (x ∷ []) zero r a n e l h = let same : x ≡ r = cc in let here : same_author x.author a ≡ false =
    ap (λ (y : AuthorRun). same_author y.author a) same ∙ h in rw here refl
more-apart (x ∷ []) (suc i) r a n e l h = absurd (omega arith)
more-apart (x ∷ y ∷ rs) zero r a n e l h = absurd (omega arith)
more-apart (x ∷ y ∷ rs) (suc i) r a n e l h = ap (λ l. x ∷ l) (more-apart (y ∷ rs) i r a n e (omega arith) h)

-- ---- spans
join_span-more : (d first : Stamp) (n : ℕ) (xs : List Span) → join_span d (with_stamps xs first n)
    ≡ with_stamps (join_span d xs) first n
join_span-more d first n [] =
    split (same_stamp (next d) first)
    (λ e. rw e (ap (λ k. (let it : Span = record { first = d; len = k } in it) ∷ [])
    (let m : n + 1 ≡ 1 + n = omega arith in m)))
    (λ e. rw e refl)
join_span-more d first n (s ∷ []) =
    split (same_stamp (next d) s.first)
    (λ e.
    let at : next d ≡ s.first = same_stamp-true (next d) s.first e in
    let counter : d.counter + 1 ≡ s.first.counter = ap (λ (k : Stamp). k.counter) at in
    let replica : d.replica ≡ s.first.replica = ap (λ (k : Stamp). k.replica) at in
    let end : stamp_behind d (s.len + 1) ≡ stamp_behind s.first s.len =
    same_stamps _ _ (omega (arith, counter)) replica in
    split (same_stamp (stamp_behind s.first s.len) first)
    (λ f. let there : same_stamp (stamp_behind d (s.len + 1)) first ≡ true = ap (λ (k : Stamp). same_stamp k first) end
    ∙ f in rw (f, e, there) (ap (λ k. (let it : Span = record { first = d; len = k } in it) ∷ [])
    (let m : s.len + n + 1 ≡ s.len + 1 + n = omega arith in m)))
    (λ f. let there : same_stamp (stamp_behind d (s.len + 1)) first ≡ false = ap (λ (k : Stamp). same_stamp k first) end
    ∙ f in rw (f, e, there) refl))
    (λ e. split (same_stamp (stamp_behind s.first s.len) first) (λ f. rw (e, f, e) refl) (λ f. rw (e, f, e) refl))
join_span-more d first n (s ∷ t ∷ xs) = split (same_stamp (next d) s.first) (λ e. rw e refl) (λ e. rw e refl)

spans-from : (first : Stamp) (n : ℕ) → spans (stamps_from first (suc n))
    ≡ (let it : Span = record { first = first; len = suc n } in it) ∷ []
spans-from first zero = refl
spans-from first (suc n) =
    ap (join_span first) (spans-from (next first) n)
    ∙ (rw (same_stamp-refl (next first)) (ap (λ k. (let it : Span = record { first = first; len = k } in it) ∷ [])
    (let m : suc n + 1 ≡ suc (suc n) = omega arith in m)))

-- the spans of stamps and n more that follow on each other
pub spans-more : (done : List Stamp) (first : Stamp) (n : ℕ) → 1 ≤ n → spans (done ++ stamps_from first n)
    ≡ with_stamps (spans done) first n
spans-more [] first zero h = absurd (omega arith)
spans-more [] first (suc n) h = spans-from first n
spans-more (d ∷ done) first n h = ap (join_span d) (spans-more done first n h) ∙ join_span-more d first n (spans done)

pub sum-stamps : (xs : List Span) (first : Stamp) (n : ℕ) → sum_by (λ s. s.len) (with_stamps xs first n)
    ≡ sum_by (λ s. s.len) xs + n
sum-stamps [] first n = sum_by-cons (λ (x : Span). x.len) (record { first = first; len = n }) []
    ∙ (let m : n + 0 ≡ 0 + n = omega arith in m)
sum-stamps (s ∷ []) first n =
    split (same_stamp (stamp_behind s.first s.len) first)
    (λ e. rw e (omega arith))
    (λ e. rw e (omega arith))
sum-stamps (s ∷ t ∷ xs) first n =
    let rest = sum-stamps (t ∷ xs) first n in
    rw (
      sum_by-cons (λ (x : Span). x.len) s (with_stamps (t ∷ xs) first n),
      sum_by-cons (λ (x : Span). x.len) s (t ∷ xs),
    ) (omega (arith, rest))

pub stamps-join : (xs : List Span) (i : ℕ) (s : Span) (first : Stamp) (n : ℕ) → slice_get xs i ≡ Some s →
    suc i ≡ length xs → same_stamp (stamp_behind s.first s.len) first ≡ true → with_stamps xs first n
    ≡ slice_set xs i (record s { len = s.len + n })
stamps-join [] i s first n e l h = absurd (cc)
stamps-join (x ∷ []) zero s first n e l h = let same : x ≡ s = cc in
    let here : same_stamp (stamp_behind x.first x.len) first ≡ true =
    ap (λ (y : Span). same_stamp (stamp_behind y.first y.len) first) same ∙ h in
    rw here (ap (λ (y : Span). (let it : Span = record y { len = y.len + n } in it) ∷ []) same)
stamps-join (x ∷ []) (suc i) s first n e l h = absurd (omega arith)
stamps-join (x ∷ y ∷ xs) zero s first n e l h = absurd (omega arith)
stamps-join (x ∷ y ∷ xs) (suc i) s first n e l h = ap (λ l. x ∷ l) (stamps-join (y ∷ xs) i s first n e (omega arith) h)

pub stamps-apart : (xs : List Span) (i : ℕ) (s : Span) (first : Stamp) (n : ℕ) → slice_get xs i ≡ Some s →
    suc i ≡ length xs → same_stamp (stamp_behind s.first s.len) first ≡ false → with_stamps xs first n ≡ xs
    ++ (let it : Span = record { first = first; len = n } in it) ∷ []
stamps-apart [] i s first n e l h = absurd (cc)
stamps-apart (x ∷ []) zero s first n e l h = let same : x ≡ s = cc in
    let here : same_stamp (stamp_behind x.first x.len) first ≡ false =
    ap (λ (y : Span). same_stamp (stamp_behind y.first y.len) first) same ∙ h in rw here refl
stamps-apart (x ∷ []) (suc i) s first n e l h = absurd (omega arith)
stamps-apart (x ∷ y ∷ xs) zero s first n e l h = absurd (omega arith)
stamps-apart (x ∷ y ∷ xs) (suc i) s first n e l h =
    ap (λ l. x ∷ l) (stamps-apart (y ∷ xs) i s first n e (omega arith) h)

-- ---- a window of two lists
pub window : {A : Type 0} (xs ys : List A) (skip left before more gone rest : ℕ) → before ≡ min skip (length xs) →
    more ≡ min (length xs - before) left → gone ≡ skip - before → rest ≡ left - more
    → take left (drop skip (xs ++ ys)) ≡ take more (drop before xs) ++ take rest (drop gone ys)
window [] ys skip left zero zero gone rest b m g r = ap₂ (λ i j. take i (drop j ys))
    (let same : left ≡ rest = omega arith in same) (let same : skip ≡ gone = omega arith in same)
window [] ys skip left zero (suc more) gone rest b m g r = absurd (omega arith)
window [] ys skip left (suc before) more gone rest b m g r = absurd (omega arith)
window (x ∷ xs) ys zero zero zero zero gone rest b m g r = ap (λ i. take i (drop gone ys))
    (let same : 0 ≡ rest = omega arith in same)
window (x ∷ xs) ys zero zero zero (suc more) gone rest b m g r = absurd (omega arith)
window (x ∷ xs) ys zero zero (suc before) more gone rest b m g r = absurd (omega arith)
window (x ∷ xs) ys zero (suc left) zero zero gone rest b m g r = absurd (omega arith)
window (x ∷ xs) ys zero (suc left) zero (suc more) gone rest b m g r =
    ap (λ l. x ∷ l) (window xs ys zero left zero more gone rest (omega arith) (omega arith) (omega arith) (omega arith))
window (x ∷ xs) ys zero (suc left) (suc before) more gone rest b m g r = absurd (omega arith)
window (x ∷ xs) ys (suc skip) left zero more gone rest b m g r = absurd (omega arith)
window (x ∷ xs) ys (suc skip) left (suc before) more gone rest b m g r = window xs ys skip left before more gone rest
    (omega arith) (omega arith) (omega arith) (omega arith)

-- stamps from a place of those that follow on each other
stamps_window : (first : Stamp) (n before more : ℕ) → before + more ≤ n → take more (drop before (stamps_from first n))
    ≡ stamps_from (stamp_behind first before) more
stamps_window first n zero zero h = refl
stamps_window first zero zero (suc more) h = absurd (omega arith)
stamps_window first (suc n) zero (suc more) h =
    ap₂ (λ (k : Stamp) l. k ∷ l) (let same : first ≡ stamp_behind first 0 = same_stamps _ _ (omega arith) refl in same)
    (stamps_window (next first) n zero more (omega arith) ∙ ap (λ (k : Stamp). stamps_from k more)
    (let same : stamp_behind (next first) 0 ≡ next (stamp_behind first 0) = same_stamps _ _ (omega arith) refl in same))
stamps_window first zero (suc before) more h = absurd (omega arith)
stamps_window first (suc n) (suc before) more h =
    stamps_window (next first) n before more (omega arith) ∙ ap (λ (k : Stamp). stamps_from k more)
    (let same : stamp_behind (next first) before ≡ stamp_behind first (suc before) = same_stamps _ _
    (omega arith) refl in same)

pub length-shown_stamps : (rev : ℕ) (b : Block) → length (shown_stamps rev b) ≡ shown_len rev b
length-shown_stamps rev b = split (shows rev b) (λ e. rw e (length-stamps b.first b.len)) (λ e. rw e refl)

-- the part of a window that lies in the first of the blocks to come
pub window_step : (rev : ℕ) (b : Block) (ys : List Stamp) (skip left shown before more gone rest : ℕ) →
    shown ≡ shown_len rev b → before ≡ min skip shown → more ≡ min (shown - before) left → gone ≡ skip - before →
    rest ≡ left - more
    → take left (drop skip (shown_stamps rev b ++ ys)) ≡ stamps_from (stamp_behind b.first before) more
    ++ take rest (drop gone ys)
window_step rev b ys skip left shown before more gone rest s e m g r =
    let size = length-shown_stamps rev b in
    window (shown_stamps rev b) ys skip left before more gone rest (e ∙ ap (min skip) (s ∙ sym size))
    (m ∙ ap (λ n. min (n - before) left) (s ∙ sym size)) g r
    ∙ ap (λ l. l ++ take rest (drop gone ys))
    (split (shows rev b)
    (λ f. let s' : shown ≡ b.len = s ∙ (rw f refl) in rw f (stamps_window b.first b.len before more (omega arith)))
    (λ f. let s' : shown ≡ 0 = s ∙ (rw f refl) in let none : more ≡ 0 = omega arith in rw (f, none) (take_none before)))
  where
    take_none : (before : ℕ) → take 0 (drop {A = Stamp} before []) ≡ []
    take_none zero = refl
    take_none (suc before) = refl

-- ---- what blocks show
authors-run : (author : Author) (born : ℕ) (died : Option ℕ) (first : Stamp) (p : Option Stamp) (text : List ℕ) →
    map (λ c. c.author) (run_cells author born died first p text) ≡ replicate (length text) author
authors-run author born died first p [] = refl
authors-run author born died first p (c ∷ text) =
    ap (λ l. author ∷ l) (authors-run author born died (next first) (Some first) text)

stamps-run : (author : Author) (born : ℕ) (died : Option ℕ) (first : Stamp) (p : Option Stamp) (text : List ℕ) →
    map (λ c. c.stamp) (run_cells author born died first p text) ≡ stamps_from first (length text)
stamps-run author born died first p [] = refl
stamps-run author born died first p (c ∷ text) =
    ap (λ l. first ∷ l) (stamps-run author born died (next first) (Some first) text)

pub authors-at : (rev : ℕ) (authors : List Author) (text : List ℕ) (bs : List Block) →
    AllByRecursion (IsWithin (length authors) (length text)) bs →
    map (λ c. c.author) (cells_at rev (cells_of authors text bs)) ≡ flat_map (shown_by rev authors) bs
authors-at rev authors text bs w = ap (map (λ c. c.author)) (cells_at-blocks rev authors text bs) ∙ whose bs w
  where
    whose : (bs : List Block) → AllByRecursion (IsWithin (length authors) (length text)) bs →
        map (λ c. c.author) (flat_map (shown_cells rev authors text) bs) ≡ flat_map (shown_by rev authors) bs
    whose [] w = refl
    whose (b ∷ bs) w =
        map-append (λ (c : Cell). c.author) (shown_cells rev authors text b)
        (flat_map (shown_cells rev authors text) bs)
        ∙ ap₂ (λ x y. x ++ y)
        (let all = authors-run (author_at authors b.author) b.born b.died b.first b.parent (stretch text b)
        ∙ ap (λ n. replicate n (author_at authors b.author)) (length-stretch text b w.0.1) in
        let here : map (λ c. c.author) (shown_cells rev authors text b) ≡ shown_by rev authors b =
        split (shows rev b) (λ e. rw e all) (λ e. rw e refl) in here)
        (whose bs w.1)

pub stamps-at : (rev : ℕ) (authors : List Author) (text : List ℕ) (bs : List Block) →
    AllByRecursion (IsWithin (length authors) (length text)) bs →
    map (λ c. c.stamp) (cells_at rev (cells_of authors text bs)) ≡ flat_map (shown_stamps rev) bs
stamps-at rev authors text bs w = ap (map (λ c. c.stamp)) (cells_at-blocks rev authors text bs) ∙ which bs w
  where
    which : (bs : List Block) → AllByRecursion (IsWithin (length authors) (length text)) bs →
        map (λ c. c.stamp) (flat_map (shown_cells rev authors text) bs) ≡ flat_map (shown_stamps rev) bs
    which [] w = refl
    which (b ∷ bs) w =
        map-append (λ (c : Cell). c.stamp) (shown_cells rev authors text b) (flat_map (shown_cells rev authors text) bs)
        ∙ ap₂ (λ x y. x ++ y)
        (let all = stamps-run (author_at authors b.author) b.born b.died b.first b.parent (stretch text b)
        ∙ ap (stamps_from b.first) (length-stretch text b w.0.1) in
        let here : map (λ c. c.stamp) (shown_cells rev authors text b) ≡ shown_stamps rev b =
        split (shows rev b) (λ e. rw e all) (λ e. rw e refl) in here)
        (which bs w.1)

pub stamps_between : (rev : ℕ) (authors : List Author) (text : List ℕ) (bs : List Block) (at n : ℕ) →
    AllByRecursion (IsWithin (length authors) (length text)) bs
    → map (λ c. c.stamp) (take n (drop at (cells_at rev (cells_of authors text bs))))
    ≡ take n (drop at (flat_map (shown_stamps rev) bs))
stamps_between rev authors text bs at n w =
    sym (ap (λ l. take n (drop at l)) (sym (stamps-at rev authors text bs w))
    ∙ ap (take n) (drop-map (λ (c : Cell). c.stamp) at (cells_at rev (cells_of authors text bs)))
    ∙ take-map (λ (c : Cell). c.stamp) n (drop at (cells_at rev (cells_of authors text bs))))

-- the item that was read
pub get_here : {A : Type 0} (xs : List A) (i : ℕ) (x : A) → i < length xs → x ≡ get_or xs i x → slice_get xs i ≡ Some x
get_here [] i x h e = absurd (omega arith)
get_here (y ∷ xs) zero x h e = ap Some (sym e)
get_here (y ∷ xs) (suc i) x h e = get_here xs i x (omega arith) e

-- an item in its own place
pub set_itself : {A : Type 0} (xs : List A) (i : ℕ) (x : A) → slice_get xs i ≡ Some x → slice_set xs i x ≡ xs
set_itself [] i x e = refl
set_itself (y ∷ xs) zero x e = let same : y ≡ x = cc in ap (λ z. z ∷ xs) (sym same)
set_itself (y ∷ xs) (suc i) x e = ap (λ l. y ∷ l) (set_itself xs i x e)

pub empty_list : {A : Type 0} (xs : List A) → length xs ≡ 0 → xs ≡ []
empty_list [] h = refl
empty_list (x ∷ xs) h = absurd (omega arith)

pub none_there : (n : ℕ) → (0 < n → false ≡ true) → n ≡ 0
none_there zero h = refl
none_there (suc n) h = let never = h (omega arith) in absurd (cc)

-- ---- one more block of a walk
module _ (rev : ℕ) (b : Block) (it rest : List Block) (is : it ≡ b ∷ rest) where
  -- the stamps of it in the window are those done next
  pub window_goes_on : (done all : List Stamp) (skip left shown before more : ℕ) →
      done ++ take left (drop skip (flat_map (shown_stamps rev) it)) ≡ all → shown ≡ shown_len rev b →
      before ≡ min skip shown → more ≡ min (shown - before) left
      → (done ++ stamps_from (stamp_behind b.first before) more) ++ take (left - more)
      (drop (skip - before) (flat_map (shown_stamps rev) rest)) ≡ all
  window_goes_on done all skip left shown before more so_far s e m =
      append_assoc done (stamps_from (stamp_behind b.first before) more)
      (take (left - more) (drop (skip - before) (flat_map (shown_stamps rev) rest)))
      ∙ ap (λ l. done ++ l)
      (sym (ap (λ l. take left (drop skip (flat_map (shown_stamps rev) l))) is
      ∙ window_step rev b (flat_map (shown_stamps rev) rest) skip left shown before more (skip - before)
      (left - more) s e m refl refl))
      ∙ so_far

  pub shown_first : sum_by (shown_len rev) it ≡ shown_len rev b + sum_by (shown_len rev) rest
  shown_first = ap (sum_by (shown_len rev)) is ∙ sum_by-cons (shown_len rev) b rest

-- nothing more
pub none_done : (done : List Stamp) (first : Stamp) (n : ℕ) → n ≡ 0 → done ++ stamps_from first n ≡ done
none_done done first zero h = Rattle.std.proofs.Common.append-nil done
none_done done first (suc n) h = absurd (omega arith)

-- the author that was read
pub author_here : (authors : List Author) (i : ℕ) (a : Author) → i < length authors → a ≡ get_or authors i a →
    author_at authors i ≡ a
author_here [] i a h e = absurd (omega arith)
author_here (x ∷ authors) zero a h e = sym e
author_here (x ∷ authors) (suc i) a h e = author_here authors i a (omega arith) e

-- the authors of a visible block are those done next
pub authors_go_on : (rev : ℕ) (authors : List Author) (b : Block) (it rest : List Block) (done all : List Author)
    (a : Author) → it ≡ b ∷ rest → shows rev b ≡ true → author_at authors b.author ≡ a →
    done ++ flat_map (shown_by rev authors) it ≡ all
    → (done ++ replicate b.len a) ++ flat_map (shown_by rev authors) rest ≡ all
authors_go_on rev authors b it rest done all a is here who so_far =
    append_assoc done (replicate b.len a) (flat_map (shown_by rev authors) rest)
    ∙ ap (λ l. done ++ l)
    (sym (ap (flat_map (shown_by rev authors)) is
    ∙ ap (λ l. l ++ flat_map (shown_by rev authors) rest) (let block : shown_by rev authors b
    ≡ replicate b.len a = (rw here (ap (replicate b.len) who)) in block)))
    ∙ so_far
