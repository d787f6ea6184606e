-- The places of the authors of the visible characters: how they follow the slides, and what they tell.
use Rattle.std.proofs.Common.{◌≡◌, ℕ, zero, suc, ◌+◌, ◌≤◌, ◌<◌, Bool, true, false, cond, List, [], ◌∷◌, ◌++◌, length}
use Rattle.std.proofs.Common.{take, drop, map, flat_map, sum_by, Some, None, is_none, refl, sym, ap, ap₂, ◌∙◌}
use Rattle.std.proofs.Common.{subst, arith, slice_get, slice_set, get_or, length-append, append_assoc, append-nil}
use Rattle.std.specs.List.{AllByRecursion, IsDistinct, insert}
use Rattle.std.proofs.Math.ListN.{replicate}
use Rattle.std.proofs.Math.Seq.{take-append_seam, drop-append_seam}
use Rattle.std.proofs.lemmas.List.{length-replicate, map-append, take-append-drop}
use Rattle.std.proofs.lemmas.List.Sums.{sum_by-cons}
use Rattle.std.proofs.lemmas.List.Concat.{flat_map-append}
use Rattle.pad_model.specs.Visible.{same_author}
use Rattle.pad_model.specs.declared.limits.TheConstants.{MAX_CHARACTERS}
use Rattle.pad_model.specs.declared.who.Author.{Author}
use Rattle.pad_model.proofs.Each.{each-append}
use Rattle.pad_model.proofs.Pieces.{same_author-refl}
use Rattle.ident_index.specs.Index.{Index}
use Rattle.text_history.specs.Slide.{Slide}
use Rattle.blocks.specs.declared.block.Block.{Block}
use Rattle.blocks.specs.Blocks.{IsKept, weight_of, without_labels, unlabelled}
use Rattle.blocks.specs.Cells.{IsWithin, SameCells}
use Rattle.authorship.specs.StoredRuns.{author_in, IsOnce}
use Rattle.block_seq.specs.Rows.{IsBlockSeq, IsDated}
use Rattle.block_seq.specs.RowLists.{shown_by}
use Rattle.block_seq.specs.RowAuthors.{live_by, live_authors, with_shown, without_hidden, MayShow, MayHide, Goes}
use Rattle.block_seq.specs.RowAuthors.{Shows, Hides, IsAuthoredRow}
use Rattle.block_seq.proofs.RowLists.{authors-at}
use Rattle.block_seq.proofs.RowNow.{dated_blocks}
use Rattle.block_seq.proofs.RowSlides.{list_now, alive_small, length-alive, parted, put_parts, slid_cut}
use Rattle.block_seq.proofs.RowSteps.{same_cells_kept}

-- ---- how many there are, and that labels change none
unlabelled_authors : (bs : List Block) → live_authors (without_labels bs) ≡ live_authors bs
unlabelled_authors [] = refl
unlabelled_authors (b ∷ bs) = ap (λ l. live_by b ++ l) (unlabelled_authors bs)

pub relabelled : (old new : List Block) → without_labels new ≡ without_labels old → live_authors new ≡ live_authors old
relabelled old new same = sym (unlabelled_authors new) ∙ ap live_authors same ∙ unlabelled_authors old

length-authors : (bs : List Block) → length (live_authors bs) ≡ sum_by weight_of bs
length-authors [] = refl
length-authors (b ∷ bs) = length-append (live_by b) (live_authors bs) ∙ ap₂ (λ x y. x + y)
    (length-replicate (weight_of b) b.author) (length-authors bs) ∙ sym (sum_by-cons weight_of b bs)

authors_small : (bs : List Block) → length (live_authors bs) ≤ sum_by (λ b. b.len) bs
authors_small bs = let small = alive_small bs in
    omega (arith, small, length-authors bs, length-alive bs)

-- ---- steps, one after the other
goes-append : (step : List ℕ → Slide → List ℕ) (May : List ℕ → Slide → Type 0) (a b c : List ℕ) (xs ys : List Slide) →
    Goes step May a xs b → Goes step May b ys c → Goes step May a (xs ++ ys) c
goes-append step May a b c [] ys g h = subst (λ l. Goes step May l ys c) (sym g) h
goes-append step May a b c (x ∷ xs) ys g h = (g.0, goes-append step May (step a x) b c xs ys g.1 h)

pub shows_then : (author : ℕ) (known next slides : List Slide) (old mid new : List Block) →
    Shows author known next old mid → Shows author next slides mid new → Shows author known slides old new
shows_then author known next slides old mid new x y = (
  x.0 ++ y.0,
  y.1 ∙ ap (λ l. l ++ y.0) x.1 ∙ append_assoc known x.0 y.0,
  goes-append (with_shown author) MayShow (live_authors old) (live_authors mid) (live_authors new) x.0 y.0 x.2 y.2,
)

pub hides_then : (known next slides : List Slide) (old mid new : List Block) →
    Hides known next old mid → Hides next slides mid new → Hides known slides old new
hides_then known next slides old mid new x y = (
  x.0 ++ y.0,
  y.1 ∙ ap (λ l. l ++ y.0) x.1 ∙ append_assoc known x.0 y.0,
  goes-append without_hidden MayHide (live_authors old) (live_authors mid) (live_authors new) x.0 y.0 x.2 y.2,
)

pub shows_nothing : (author : ℕ) (slides : List Slide) (bs : List Block) → Shows author slides slides bs bs
shows_nothing author slides bs = ([], sym (append-nil slides), refl)

pub hides_nothing : (slides : List Slide) (bs : List Block) → Hides slides slides bs bs
hides_nothing slides bs = ([], sym (append-nil slides), refl)

-- the slides behind those that were there
drop_known : (known more slides : List Slide) (n : ℕ) → n ≡ length known → slides ≡ known ++ more →
    drop n slides ≡ more
drop_known known more slides n e is = ap₂ drop e is ∙ drop-append_seam known more

pub shown_from : (author : ℕ) (known slides lent : List Slide) (old new : List Block) (ps : List ℕ) (n : ℕ) →
    ps ≡ live_authors old → lent ≡ slides → n ≡ length known → Shows author known slides old new
    → Goes (with_shown author) MayShow ps (drop n lent) (live_authors new)
shown_from author known slides lent old new ps n is lends e s =
    subst (λ x. Goes (with_shown author) MayShow x (drop n lent) (live_authors new)) (sym is)
    (subst (λ l. Goes (with_shown author) MayShow (live_authors old) l (live_authors new))
    (sym (drop_known known s.0 lent n e (lends ∙ s.1))) s.2)

pub hidden_from : (known slides lent : List Slide) (old new : List Block) (ps : List ℕ) (n : ℕ) →
    ps ≡ live_authors old → lent ≡ slides → n ≡ length known → Hides known slides old new
    → Goes without_hidden MayHide ps (drop n lent) (live_authors new)
hidden_from known slides lent old new ps n is lends e s =
    subst (λ x. Goes without_hidden MayHide x (drop n lent) (live_authors new)) (sym is)
    (subst (λ l. Goes without_hidden MayHide (live_authors old) l (live_authors new))
    (sym (drop_known known s.0 lent n e (lends ∙ s.1))) s.2)

-- ---- a block that comes, and one that dies
seam : (front back : List ℕ) (n : ℕ) → n ≡ length front → (take n (front ++ back) ≡ front)
    × (drop n (front ++ back) ≡ back)
seam front back n e = (
  ap (λ k. take k (front ++ back)) e ∙ take-append_seam front back,
  ap (λ k. drop k (front ++ back)) e ∙ drop-append_seam front back,
)

pub shown_put : (author : ℕ) (slides after_slides : List Slide) (s : Slide) (mid after : List Block) (k : ℕ) (b : Block) →
    without_labels after ≡ insert (without_labels mid) k (unlabelled b) → b.died ≡ None → b.author ≡ author
    → s.at ≡ sum_by weight_of (take k mid) → s.len ≡ b.len → sum_by (λ x. x.len) mid + b.len ≤ MAX_CHARACTERS
    → after_slides ≡ slides ++ s ∷ [] → Shows author slides after_slides mid after
shown_put author slides after_slides s mid after k b put died who at len small pushed =
    let front = live_authors (take k mid) in
    let back = live_authors (drop k mid) in
    let whole : live_authors mid ≡ front ++ back =
    ap live_authors (sym (take-append-drop k mid)) ∙ flat_map-append live_by (take k mid) (drop k mid) in
    let place : s.at ≡ length front = at ∙ sym (length-authors (take k mid)) in
    let parts = seam front back s.at place in
    let here : replicate s.len author ≡ live_by b =
    ap₂ (λ n x. replicate n x) (len ∙ ap (λ d. cond (is_none d) b.len 0) (sym died)) (sym who) in
    let less = authors_small mid in
    let size = ap length whole ∙ length-append front back in (
      s ∷ [],
      pushed,
      (
        (omega (arith, place, size), omega (arith, less, small, len)),
        ap (λ ps. with_shown author ps s) whole ∙ ap₂ (λ x y. x ++ replicate s.len author ++ y) parts.0 parts.1
            ∙ ap (λ l. front ++ l ++ back) here ∙ append_assoc front (live_by b) back
            ∙ sym (flat_map-append live_by (take k mid) (b ∷ drop k mid))
            ∙ sym (relabelled (take k mid ++ b ∷ drop k mid) after (put_parts mid after k b put)),
      ),
    )

pub hidden_killed : (slides after_slides : List Slide) (s : Slide) (bs after : List Block) (rank : ℕ) (b : Block) →
    slice_get bs rank ≡ Some b → b.died ≡ None → s.at ≡ sum_by weight_of (take rank bs) → s.len ≡ b.len
    → after ≡ slice_set bs rank (record b { died = Some s.rev }) → after_slides ≡ slides ++ s ∷ []
    → Hides slides after_slides bs after
hidden_killed slides after_slides s bs after rank b there died at len dead pushed =
    let gone : Block = record b { died = Some s.rev } in
    let split_at = parted bs rank b gone there in
    let front = live_authors (take rank bs) in
    let back = live_authors (drop (suc rank) bs) in
    let here : live_by b ≡ replicate s.len b.author =
    ap (λ n. replicate n b.author) (ap (λ d. cond (is_none d) b.len 0) died ∙ sym len) in
    let middle = replicate s.len b.author in
    let whole : live_authors bs ≡ front ++ (middle ++ back) =
    ap live_authors split_at.0 ∙ flat_map-append live_by (take rank bs) (b ∷ drop (suc rank) bs)
    ∙ ap (λ l. front ++ (l ++ back)) here in
    let place : s.at ≡ length front = at ∙ sym (length-authors (take rank bs)) in
    let first = seam front (middle ++ back) s.at place in
    let end : s.at + s.len ≡ length (front ++ middle) =
    ap₂ (λ x y. x + y) place (sym (length-replicate s.len b.author)) ∙ sym (length-append front middle) in
    let last = seam (front ++ middle) back (s.at + s.len) end in
    let size = ap length whole ∙ length-append front (middle ++ back) in
    let more = length-append middle back in
    let own = length-replicate s.len b.author in (
      s ∷ [],
      pushed,
      (
        omega (arith, place, size, more, own),
        ap (λ ps. without_hidden ps s) whole ∙ ap₂ (λ x y. x ++ y) first.0
            (ap (drop (s.at + s.len)) (sym (append_assoc front middle back)) ∙ last.1)
            ∙ sym (ap live_authors (dead ∙ split_at.1)
            ∙ flat_map-append live_by (take rank bs) (gone ∷ drop (suc rank) bs)),
      ),
    )

-- ---- what the places tell
map-replicate : {A B : Type 0} (f : A → B) (n : ℕ) (x : A) → map f (replicate n x) ≡ replicate n (f x)
map-replicate f zero x = refl
map-replicate f (suc n) x = ap (λ l. f x ∷ l) (map-replicate f n x)

replicate_cond : {A : Type 0} (t : Bool) (n : ℕ) (x : A) → replicate (cond t n 0) x ≡ cond t (replicate n x) []
replicate_cond true n x = refl
replicate_cond false n x = refl

pub authors_now : (rev : ℕ) (table : List Author) (bs : List Block) → AllByRecursion (IsDated rev) bs →
    map (author_in table) (live_authors bs) ≡ flat_map (shown_by rev table) bs
authors_now rev table [] d = refl
authors_now rev table (b ∷ bs) d =
    let here : map (author_in table) (live_by b) ≡ shown_by rev table b =
    map-replicate (author_in table) (weight_of b) b.author
    ∙ replicate_cond (is_none b.died) b.len (author_in table b.author)
    ∙ sym (list_now b.born rev b.died (replicate b.len (author_in table b.author)) d.0.0 d.0.1) in
    map-append (author_in table) (live_by b) (live_authors bs) ∙ ap₂ (λ x y. x ++ y) here (authors_now rev table bs d.1)

each-replicate : (P : ℕ → Type 0) (n x : ℕ) → P x → AllByRecursion P (replicate n x)
each-replicate P zero x h = tt
each-replicate P (suc n) x h = (h, each-replicate P n x h)

pub authors_known : (authors text : ℕ) (bs : List Block) → AllByRecursion (IsWithin authors text) bs →
    AllByRecursion (λ place. place < authors) (live_authors bs)
authors_known authors text [] w = tt
authors_known authors text (b ∷ bs) w =
    each-append (λ place. place < authors) (live_by b) (live_authors bs)
    (each-replicate (λ place. place < authors) (weight_of b) b.author w.0.0) (authors_known authors text bs w.1)

-- ---- a table that has none twice
each_at : {A : Type 0} (P : A → Type 0) (xs : List A) (i : ℕ) (d : A) → i < length xs → AllByRecursion P xs →
    P (get_or xs i d)
each_at P [] i d h all = absurd (omega arith)
each_at P (x ∷ xs) zero d h all = all.0
each_at P (x ∷ xs) (suc i) d h all = each_at P xs i d (omega (arith, h)) all.1

apart : (a b : Author) → same_author a b ≡ false → a ≡ b → ⊥
apart a b differs same = absurd (let e : same_author a a ≡ false = ap (same_author a) same ∙ differs in
    cc (e, same_author-refl a))

pub once_of : (table : List Author) → IsDistinct same_author table → IsOnce table
unfolding IsDistinct
once_of [] d i j h k e = absurd (omega arith)
once_of (a ∷ table) d zero zero h k e = refl
once_of (a ∷ table) d zero (suc j) h k e = absurd (apart a (author_in table j)
    (each_at (λ b. same_author a b ≡ false) table j (record { name = []; origin = 0 }) (omega (arith, k)) d.0) e)
once_of (a ∷ table) d (suc i) zero h k e = absurd (apart a (author_in table i)
    (each_at (λ b. same_author a b ≡ false) table i (record { name = []; origin = 0 }) (omega (arith, h)) d.0) (sym e))
once_of (a ∷ table) d (suc i) (suc j) h k e = ap suc (once_of table d.1 i j (omega (arith, h)) (omega (arith, k)) e)

same_places : (table : List Author) (ps qs : List ℕ) → IsOnce table → AllByRecursion (λ p. p < length table) ps →
    AllByRecursion (λ p. p < length table) qs → map (author_in table) ps ≡ map (author_in table) qs → ps ≡ qs
same_places table [] [] once k l e = refl
same_places table [] (q ∷ qs) once k l e = absurd (cc)
same_places table (p ∷ ps) [] once k l e = absurd (cc)
same_places table (p ∷ ps) (q ∷ qs) once k l e =
    ap₂ (λ x xs. x ∷ xs) (once p q k.0 l.0 (cc)) (same_places table ps qs once k.1 l.1 (cc))

-- ---- where no character changes
same_live : {latest clock : ℕ} (authors : List Author) (text : List ℕ) (m n : Index) (bs after : List Block) →
    IsBlockSeq latest clock authors text m bs → IsKept n after → SameCells bs after → IsDistinct same_author authors
    → live_authors after ≡ live_authors bs
same_live {latest} authors text m n bs after row kept same distinct =
    let new = same_cells_kept authors text m n bs after row kept same in
    let old_dated = dated_blocks latest authors text bs row.within row.kept.listed.sized row.dated in
    let new_dated = dated_blocks latest authors text after new.0.within kept.listed.sized new.0.dated in
    same_places authors (live_authors after) (live_authors bs) (once_of authors distinct)
    (authors_known (length authors) (length text) after new.0.within)
    (authors_known (length authors) (length text) bs row.within)
    (authors_now latest authors after new_dated ∙ sym (authors-at latest authors text after new.0.within)
    ∙ ap (λ l. map (λ c. c.author) (Rattle.pad_model.specs.Cell.cells_at latest l)) new.1
    ∙ authors-at latest authors text bs row.within ∙ sym (authors_now latest authors bs old_dated))

pub authored_cut : {latest clock : ℕ} (authors : List Author) (text : List ℕ) (slides : List Slide) (m n : Index)
    (bs after : List Block) (places : List ℕ) → IsAuthoredRow latest clock authors text slides m bs places →
    IsKept n after → SameCells bs after → IsAuthoredRow latest clock authors text slides n after places
authored_cut authors text slides m n bs after places whole kept same = record {
  row = (same_cells_kept authors text m n bs after whole.row kept same).0;
  slid = slid_cut slides authors text m n bs after whole.row kept same whole.slid;
  once = whole.once;
  runs = whole.runs ∙ sym (same_live authors text m n bs after whole.row kept same whole.once);
}
