-- How the slides of a row grow: by an insertion, by a death, and not at all where no character changes.
use Rattle.std.proofs.Common.{◌≡◌, ℕ, zero, suc, ◌+◌, ◌-◌, ◌≤◌, ◌<◌, true, false, cond, ◌&&◌, List, [], ◌∷◌, ◌++◌}
use Rattle.std.proofs.Common.{length, take, drop, map, flat_map, sum_by, Option, Some, None, is_none, refl, sym, ap}
use Rattle.std.proofs.Common.{ap₂, ◌∙◌, subst, arith, slice_get, slice_set, nat_le, le-leb, le-ltb, lt-ltb}
use Rattle.std.proofs.Common.{length-append}
use Rattle.std.specs.List.{AllByRecursion, insert}
use Rattle.std.proofs.lemmas.Bool.{lt-leb}
use Rattle.std.proofs.lemmas.List.{take-append-drop, take-map, drop-map, map-append}
use Rattle.std.proofs.lemmas.List.Sums.{sum_by-cons, sum_by-append}
use Rattle.std.specs.List.{AllZip}
use Rattle.std.proofs.lemmas.List.Concat.{flat_map-append}
use Rattle.pad_model.specs.Cell.{IsBy, is_after, cells_at}
use Rattle.pad_model.specs.Operation.{stamps_from}
use Rattle.pad_model.specs.Stamp.{Stamp}
use Rattle.pad_model.specs.declared.limits.TheConstants.{MAX_CHARACTERS, MAX_COUNTER}
use Rattle.pad_model.specs.declared.who.Author.{Author}
use Rattle.pad_model.proofs.Each.{each-append, each-imply}
use Rattle.pad_model.proofs.Newer.{split}
use Rattle.blocks.specs.declared.block.Block.{Block}
use Rattle.ident_index.specs.Index.{Index}
use Rattle.blocks.specs.Blocks.{IsKept, IsSized, weight_of, without_labels, unlabelled}
use Rattle.blocks.specs.Cells.{author_at, run_cells, stretch, block_cells, cells_of, SameCells}
use Rattle.text_history.specs.Slides.{Leads, Moves, since}
use Rattle.text_history.specs.Slide.{Slide}
use Rattle.text_history.proofs.Carrying.{length-stamps}
use Rattle.text_history.proofs.Slides.{leads-then, since-later, since-none, sorted-then}
use Rattle.block_seq.specs.Rows.{IsBlockSeq, IsDated}
use Rattle.block_seq.specs.RowLists.{shown_stamps}
use Rattle.block_seq.specs.RowSlides.{live_stamps, live_blocks, IsSlid}
use Rattle.block_seq.proofs.RowLists.{stamps-at}
use Rattle.block_seq.proofs.RowNow.{dated_blocks}

-- the stamps that a row shows at a revision
abbrev shown : ℕ → List Block → List Stamp
shown rev bs = flat_map (shown_stamps rev) bs

-- the stamps that are alive in a row
abbrev alive : List Block → List Stamp
alive bs = flat_map live_stamps bs

-- ---- what is alive is what the last revision shows
pub list_now : {A : Type 0} (born rev : ℕ) (died : Option ℕ) (xs : List A) → born ≤ rev →
    ((d : ℕ) → died ≡ Some d → d ≤ rev) → cond (nat_le born rev && is_after rev died) xs [] ≡ cond (is_none died) xs []
list_now born rev None xs b d = rw (le-leb born rev b) refl
list_now born rev (Some x) xs b d =
    let before : x ≤ rev = d x refl in
    split (nat_le born rev) (λ e. rw (e, le-ltb rev x before) refl) (λ e. rw e refl)

pub stamps_now : (rev : ℕ) (bs : List Block) → AllByRecursion (IsDated rev) bs → shown rev bs ≡ alive bs
stamps_now rev [] d = refl
stamps_now rev (b ∷ bs) d = ap₂ (λ x y. x ++ y) (list_now b.born rev b.died (stamps_from b.first b.len) d.0.0 d.0.1)
    (stamps_now rev bs d.1)

pub dated_later : (rev later : ℕ) (bs : List Block) → rev ≤ later → AllByRecursion (IsDated rev) bs →
    AllByRecursion (IsDated later) bs
dated_later rev later bs l h = each-imply (IsDated rev) (IsDated later)
    (λ b k. (let x : b.born ≤ rev = k.0 in omega arith, λ died e. (let x : died ≤ rev = k.1 died e in omega arith))) bs
    h

length-live : (first : Stamp) (n : ℕ) (died : Option ℕ) → length (cond (is_none died) (stamps_from first n) [])
    ≡ cond (is_none died) n 0
length-live first n None = length-stamps first n
length-live first n (Some x) = refl

pub length-alive : (bs : List Block) → length (alive bs) ≡ sum_by weight_of bs
length-alive [] = refl
length-alive (b ∷ bs) = length-append (live_stamps b) (alive bs) ∙ ap₂ (λ x y. x + y) (length-live b.first b.len b.died)
    (length-alive bs) ∙ sym (sum_by-cons weight_of b bs)

small_weight : (n : ℕ) (died : Option ℕ) → cond (is_none died) n 0 ≤ n
small_weight n None = omega arith
small_weight n (Some x) = omega arith

pub alive_small : (bs : List Block) → length (alive bs) ≤ sum_by (λ b. b.len) bs
alive_small [] = omega arith
alive_small (b ∷ bs) =
    let sum = sum_by-cons (λ (x : Block). x.len) b bs in
    let rest = alive_small bs in
    let both = length-append (live_stamps b) (alive bs) in
    let here = length-live b.first b.len b.died in
    let less = small_weight b.len b.died in
    omega (arith, sum, rest, both, here, less)

-- ---- rows that show the same have the same slides
pub slid_same : (slides : List Slide) (old new : List Block) → IsSlid slides old →
    ((rev : ℕ) → shown rev new ≡ shown rev old) → alive new ≡ alive old →
    ((rev : ℕ) → AllByRecursion (IsDated rev) new → AllByRecursion (IsDated rev) old) → IsSlid slides new
slid_same slides old new s shows lives dated = record {
  sorted = s.sorted;
  by = λ rev d. s.by rev (dated rev d);
  leads = λ rev. subst (λ l. Leads (since rev slides) l (alive new)) (sym (shows rev))
      (subst (λ l. Leads (since rev slides) (shown rev old) l) (sym lives) (s.leads rev));
}

-- ---- labels change no slide
shown_unlabelled : (rev : ℕ) (bs : List Block) → shown rev (without_labels bs) ≡ shown rev bs
shown_unlabelled rev [] = refl
shown_unlabelled rev (b ∷ bs) = ap (λ l. shown_stamps rev b ++ l) (shown_unlabelled rev bs)

alive_unlabelled : (bs : List Block) → alive (without_labels bs) ≡ alive bs
alive_unlabelled [] = refl
alive_unlabelled (b ∷ bs) = ap (λ l. live_stamps b ++ l) (alive_unlabelled bs)

dated_with : (rev : ℕ) (bs : List Block) → AllByRecursion (IsDated rev) bs → AllByRecursion (IsDated rev)
    (without_labels bs)
dated_with rev [] d = tt
dated_with rev (b ∷ bs) d = (d.0, dated_with rev bs d.1)

dated_without : (rev : ℕ) (bs : List Block) → AllByRecursion (IsDated rev) (without_labels bs) →
    AllByRecursion (IsDated rev) bs
dated_without rev [] d = tt
dated_without rev (b ∷ bs) d = (d.0, dated_without rev bs d.1)

pub slid_relabelled : (slides : List Slide) (old new : List Block) → without_labels new ≡ without_labels old →
    IsSlid slides old → IsSlid slides new
slid_relabelled slides old new e s =
    slid_same slides old new s (λ rev. sym (shown_unlabelled rev new) ∙ ap (shown rev) e ∙ shown_unlabelled rev old)
    (sym (alive_unlabelled new) ∙ ap alive e ∙ alive_unlabelled old)
    (λ rev d. dated_without rev old (subst (AllByRecursion (IsDated rev)) e (dated_with rev new d)))

-- ---- a block that comes
each_part : {A : Type 0} (P : A → Type 0) (xs ys : List A) → AllByRecursion P (xs ++ ys) → AllByRecursion P xs
    × AllByRecursion P ys
each_part P [] ys h = (tt, h)
each_part P (x ∷ xs) ys h = let rest = each_part P xs ys h.1 in ((h.0, rest.0), rest.1)

by_later : (rev later : ℕ) (slides : List Slide) → rev ≤ later → AllByRecursion (λ s. s.rev ≤ rev) slides →
    AllByRecursion (λ s. s.rev ≤ later) slides
by_later rev later slides l h = each-imply (λ s. s.rev ≤ rev) (λ s. s.rev ≤ later) (λ s k. omega (arith, l, k)) slides h

-- the slides with one more, by what it does between two revisions
grown : (slides : List Slide) (s : Slide) (old new : List Block) → IsSlid slides old →
    AllByRecursion (IsDated s.rev) old → AllByRecursion (IsDated s.rev) new → Moves s (alive old) (alive new)
    → ((rev : ℕ) → rev < s.rev → shown rev new ≡ shown rev old) →
    ((rev : ℕ) → AllByRecursion (IsDated rev) new → (s.rev ≤ rev) × AllByRecursion (IsDated rev) old) →
    IsSlid (slides ++ s ∷ []) new
grown slides s old new is old_by new_by moves same dates =
    let by = is.by s.rev old_by in
    record {
      sorted = sorted-then 0 slides s (omega arith) is.sorted by;
      by = λ rev d. (let h = dates rev d in each-append (λ t. t.rev ≤ rev) slides (s ∷ []) (is.by rev h.1) (h.0, tt));
      leads = λ rev. split (nat_le s.rev rev)
          (λ e.
          let l : s.rev ≤ rev = Rattle.std.proofs.Common.leb-true s.rev rev e in
          subst (λ ss. Leads ss (shown rev new) (alive new))
          (sym (since-none rev (slides ++ s ∷ [])
          (each-append (λ t. t.rev ≤ rev) slides (s ∷ []) (by_later s.rev rev slides l by) (l, tt))))
          (stamps_now rev new (dated_later s.rev rev new l new_by)))
          (λ e.
          let l : rev < s.rev = Rattle.std.proofs.Common.leb-false s.rev rev e in
          subst (λ ss. Leads ss (shown rev new) (alive new)) (sym (since-later rev slides s l))
          (leads-then (since rev slides) s (shown rev new) (alive old) (alive new)
          (subst (λ x. Leads (since rev slides) x (alive old)) (sym (same rev l)) (is.leads rev)) moves));
    }

-- a new block shows nothing before its birth
none_yet : {A : Type 0} (born rev : ℕ) (died : Option ℕ) (xs : List A) → rev < born →
    cond (nat_le born rev && is_after rev died) xs [] ≡ []
none_yet born rev died xs l = rw (lt-leb born rev l) refl

pub slid_shown : (slides : List Slide) (s : Slide) (front back : List Block) (b : Block) →
    IsSlid slides (front ++ back) → AllByRecursion (IsDated s.rev) (front ++ back) → b.born ≡ s.rev → b.died ≡ None
    → s.at ≡ sum_by weight_of front → s.first ≡ b.first → s.len ≡ b.len → s.shows ≡ true → b.first.counter + b.len
    ≤ MAX_COUNTER + 1 → sum_by (λ x. x.len) (front ++ back) + b.len ≤ MAX_CHARACTERS →
    IsSlid (slides ++ s ∷ []) (front ++ b ∷ back)
slid_shown slides s front back b is dated born died at first len shows sized small =
    let parts = each_part (IsDated s.rev) front back dated in
    let here : IsDated s.rev b = (omega (arith, born), λ d e. absurd (cc)) in
    let live : live_stamps b ≡ stamps_from s.first s.len =
    ap (λ d. cond (is_none d) (stamps_from b.first b.len) []) died ∙ ap₂ stamps_from (sym first) (sym len) in
    let both = flat_map-append live_stamps front back in
    let less = alive_small (front ++ back) in
    let lengths = ap length both ∙ length-append (alive front) (alive back) in
    let place : length (alive front) ≡ s.at = length-alive front ∙ sym at in
    grown slides s (front ++ back) (front ++ b ∷ back) is dated (each-append (IsDated s.rev) front (b ∷ back) parts.0
    (here, parts.1))
    (record {
      front = alive front;
      back = alive back;
      place = place;
      small = omega (arith, small, less, lengths, place, len);
      sized = subst (λ (f : Stamp). f.counter + s.len ≤ MAX_COUNTER + 1) (sym first) (omega (arith, sized, len));
      before = both ∙ ap (λ t. alive front ++ cond t (alive back) (stamps_from s.first s.len ++ alive back))
          (sym shows);
      after = flat_map-append live_stamps front (b ∷ back) ∙ ap (λ l. alive front ++ (l ++ alive back)) live
          ∙ ap (λ t. alive front ++ cond t (stamps_from s.first s.len ++ alive back) (alive back)) (sym shows);
    })
    (λ rev l.
    flat_map-append (shown_stamps rev) front (b ∷ back) ∙ ap (λ x. shown rev front ++ (x ++ shown rev back))
    (none_yet b.born rev b.died (stamps_from b.first b.len) (omega (arith, l, born)))
    ∙ sym (flat_map-append (shown_stamps rev) front back))
    (λ rev d. (let two = each_part (IsDated rev) front (b ∷ back) d in
    (omega (arith, born, two.1.0.0), each-append (IsDated rev) front back two.0 two.1.1)))

-- ---- a block that dies
not_yet : {A : Type 0} (born rev dies : ℕ) (xs : List A) → rev < dies →
    cond (nat_le born rev && is_after rev (Some dies)) xs [] ≡ cond (nat_le born rev && is_after rev None) xs []
not_yet born rev dies xs l = rw (lt-ltb rev dies l) refl

pub slid_hidden : (slides : List Slide) (s : Slide) (front back : List Block) (b : Block) →
    IsSlid slides (front ++ b ∷ back) → AllByRecursion (IsDated s.rev) (front ++ b ∷ back) → b.died ≡ None
    → s.at ≡ sum_by weight_of front → s.first ≡ b.first → s.len ≡ b.len → s.shows ≡ false → b.first.counter + b.len
    ≤ MAX_COUNTER + 1 → sum_by (λ x. x.len) (front ++ b ∷ back) ≤ MAX_CHARACTERS →
    IsSlid (slides ++ s ∷ []) (front ++ (record b { died = Some s.rev }) ∷ back)
slid_hidden slides s front back b is dated died at first len shows sized small =
    let dead : Block = record b { died = Some s.rev } in
    let parts = each_part (IsDated s.rev) front (b ∷ back) dated in
    let born : b.born ≤ s.rev = parts.1.0.0 in
    let here : IsDated s.rev dead = (born, λ d e. (let same : s.rev ≡ d = cc in omega arith)) in
    let live : live_stamps b ≡ stamps_from s.first s.len =
    ap (λ d. cond (is_none d) (stamps_from b.first b.len) []) died ∙ ap₂ stamps_from (sym first) (sym len) in
    let both : alive (front ++ b ∷ back) ≡ alive front ++ (stamps_from s.first s.len ++ alive back) =
    flat_map-append live_stamps front (b ∷ back) ∙ ap (λ l. alive front ++ (l ++ alive back)) live in
    let less = alive_small (front ++ b ∷ back) in
    let lengths = ap length both ∙ length-append (alive front) (stamps_from s.first s.len ++ alive back) in
    let more = length-append (stamps_from s.first s.len) (alive back) in
    let size = length-stamps s.first s.len in
    let place : length (alive front) ≡ s.at = length-alive front ∙ sym at in
    grown slides s (front ++ b ∷ back) (front ++ dead ∷ back) is dated
    (each-append (IsDated s.rev) front (dead ∷ back) parts.0 (here, parts.1.1))
    (record {
      front = alive front;
      back = alive back;
      place = place;
      small = omega (arith, small, less, lengths, more, size, place);
      sized = subst (λ (f : Stamp). f.counter + s.len ≤ MAX_COUNTER + 1) (sym first) (omega (arith, sized, len));
      before = both ∙ ap (λ t. alive front ++ cond t (alive back) (stamps_from s.first s.len ++ alive back))
          (sym shows);
      after = flat_map-append live_stamps front (dead ∷ back)
          ∙ ap (λ t. alive front ++ cond t (stamps_from s.first s.len ++ alive back) (alive back)) (sym shows);
    })
    (λ rev l.
    flat_map-append (shown_stamps rev) front (dead ∷ back)
    ∙ ap (λ x. shown rev front ++ (x ++ shown rev back)) (not_yet b.born rev s.rev (stamps_from b.first b.len) l
    ∙ ap (λ d. cond (nat_le b.born rev && is_after rev d) (stamps_from b.first b.len) []) (sym died))
    ∙ sym (flat_map-append (shown_stamps rev) front (b ∷ back)))
    (λ rev d.
    (let two = each_part (IsDated rev) front (dead ∷ back) d in (
      two.1.0.1 s.rev refl,
      each-append (IsDated rev) front (b ∷ back) two.0 ((two.1.0.0, λ x e. absurd (cc)), two.1.1),
    )))

-- ---- a block that dies at its rank
pub parted : (bs : List Block) (rank : ℕ) (b x : Block) → slice_get bs rank ≡ Some b →
    (bs ≡ take rank bs ++ b ∷ drop (suc rank) bs) × (slice_set bs rank x ≡ take rank bs ++ x ∷ drop (suc rank) bs)
parted [] rank b x e = absurd (cc)
parted (y ∷ bs) zero b x e = let same : y ≡ b = cc in (ap (λ z. z ∷ bs) same, refl)
parted (y ∷ bs) (suc rank) b x e = let rest = parted bs rank b x e in (ap (λ l. y ∷ l) rest.0, ap (λ l. y ∷ l) rest.1)

pub slid_killed : (slides : List Slide) (s : Slide) (bs : List Block) (rank : ℕ) (b : Block) → slice_get bs rank
    ≡ Some b → IsSlid slides bs → AllByRecursion (IsDated s.rev) bs → b.died ≡ None
    → s.at ≡ sum_by weight_of (take rank bs) → s.first ≡ b.first → s.len ≡ b.len → s.shows ≡ false → IsSized b →
    sum_by (λ x. x.len) bs ≤ MAX_CHARACTERS
    → IsSlid (slides ++ s ∷ []) (slice_set bs rank (record b { died = Some s.rev })) × AllByRecursion (IsDated s.rev)
    (slice_set bs rank (record b { died = Some s.rev }))
slid_killed slides s bs rank b there is dated died at first len shows sized small =
    let dead : Block = record b { died = Some s.rev } in
    let parts = parted bs rank b dead there in
    let front = take rank bs in
    let back = drop (suc rank) bs in
    let each = each_part (IsDated s.rev) front (b ∷ back) (subst (AllByRecursion (IsDated s.rev)) parts.0 dated) in (
      subst (IsSlid (slides ++ s ∷ [])) (sym parts.1)
          (slid_hidden slides s front back b (subst (IsSlid slides) parts.0 is)
          (subst (AllByRecursion (IsDated s.rev)) parts.0 dated) died at first len shows sized.1
          (subst (λ l. sum_by (λ x. x.len) l ≤ MAX_CHARACTERS) parts.0 small)),
      subst (AllByRecursion (IsDated s.rev)) (sym parts.1)
          (each-append (IsDated s.rev) front (dead ∷ back) each.0
          ((each.1.0.0, λ d e. (let same : s.rev ≡ d = cc in omega arith)), each.1.1)),
    )

-- a death leaves one live block less
abbrev counts : Block → ℕ
counts b = cond (is_none b.died) 1 0

count-cons : (b : Block) (bs : List Block) → live_blocks (b ∷ bs) ≡ counts b + live_blocks bs
count-cons b bs = sum_by-cons counts b bs

pub fewer_alive : (bs : List Block) (rank rev : ℕ) (b : Block) → slice_get bs rank ≡ Some b → b.died ≡ None →
    live_blocks (slice_set bs rank (record b { died = Some rev })) + 1 ≡ live_blocks bs
fewer_alive [] rank rev b e none = absurd (cc)
fewer_alive (y ∷ bs) zero rev b e none =
    let same : y ≡ b = cc in
    let alive : counts y ≡ 1 = ap counts same ∙ ap (λ d. cond (is_none d) 1 0) none in
    let dead : Block = record b { died = Some rev } in
    let before = count-cons y bs in
    let after = count-cons dead bs in
    omega (arith, before, after, alive)
fewer_alive (y ∷ bs) (suc rank) rev b e none =
    let rest = fewer_alive bs rank rev b e none in
    let before = count-cons y bs in
    let after = count-cons y (slice_set bs rank (record b { died = Some rev })) in
    omega (arith, before, after, rest)

pub none_of : {A : Type 0} (o : Option A) → Rattle.std.specs.Prelude.is_some o ≡ false → o ≡ None
none_of None e = refl
none_of (Some x) e = absurd (cc)

-- ---- where no character changes
run_dated : (rev : ℕ) (author : Author) (born : ℕ) (died : Option ℕ) (first : Stamp) (p : Option Stamp)
    (text : List ℕ) → (born ≤ rev) × ((d : ℕ) → died ≡ Some d → d ≤ rev) →
    AllByRecursion (IsBy rev) (run_cells author born died first p text)
run_dated rev author born died first p [] h = tt
run_dated rev author born died first p (c ∷ text) h =
    (h, run_dated rev author born died (Rattle.pad_model.specs.Character.next first) (Some first) text h)

cells_dated : (rev : ℕ) (authors : List Author) (text : List ℕ) (bs : List Block) → AllByRecursion (IsDated rev) bs →
    AllByRecursion (IsBy rev) (cells_of authors text bs)
cells_dated rev authors text [] d = tt
cells_dated rev authors text (b ∷ bs) d =
    each-append (IsBy rev) (block_cells authors text b) (cells_of authors text bs)
    (run_dated rev (author_at authors b.author) b.born b.died b.first b.parent (stretch text b) d.0)
    (cells_dated rev authors text bs d.1)

pub slid_cut : {latest clock : ℕ} (slides : List Slide) (authors : List Author) (text : List ℕ) (m n : Index)
    (bs after : List Block) → IsBlockSeq latest clock authors text m bs → IsKept n after → SameCells bs after →
    IsSlid slides bs → IsSlid slides after
slid_cut {latest} slides authors text m n bs after row kept same is =
    let within = same.within (length authors) (length text) row.within in
    let cells = same.cells authors text row.within in
    let shows : (rev : ℕ) → shown rev after ≡ shown rev bs = λ rev. sym (stamps-at rev authors text after within)
    ∙ ap (λ l. map (λ c. c.stamp) (cells_at rev l)) cells ∙ stamps-at rev authors text bs row.within in
    let dated : (rev : ℕ) → AllByRecursion (IsDated rev) after → AllByRecursion (IsDated rev) bs =
    λ rev d. dated_blocks rev authors text bs row.within row.kept.listed.sized
    (subst (AllByRecursion (IsBy rev)) cells (cells_dated rev authors text after d)) in
    let new : AllByRecursion (IsDated latest) after = dated_blocks latest authors text after within kept.listed.sized
    (subst (AllByRecursion (IsBy latest)) (sym cells) row.dated) in
    slid_same slides bs after is shows (sym (stamps_now latest after new) ∙ shows latest
    ∙ stamps_now latest bs (dated latest new)) dated

-- ---- a block that comes at its rank, with new labels
-- the blocks with one more, without their labels
pub put_parts : (mid after : List Block) (k : ℕ) (b : Block) → without_labels after
    ≡ insert (without_labels mid) k (unlabelled b) → without_labels after
    ≡ without_labels (take k mid ++ b ∷ drop k mid)
put_parts mid after k b put = put ∙ ap₂ (λ x y. x ++ unlabelled b ∷ y) (take-map unlabelled k mid)
    (drop-map unlabelled k mid) ∙ sym (map-append unlabelled (take k mid) (b ∷ drop k mid))

pub slid_put : (slides : List Slide) (s : Slide) (mid after : List Block) (k : ℕ) (b : Block) → without_labels after
    ≡ insert (without_labels mid) k (unlabelled b) → IsSlid slides mid → AllByRecursion (IsDated s.rev) mid →
    b.born ≡ s.rev → b.died ≡ None
    → s.at ≡ sum_by weight_of (take k mid) → s.first ≡ b.first → s.len ≡ b.len → s.shows ≡ true → b.first.counter
    + b.len ≤ MAX_COUNTER + 1 → sum_by (λ x. x.len) mid + b.len ≤ MAX_CHARACTERS
    → IsSlid (slides ++ s ∷ []) after × AllByRecursion (IsDated s.rev) after
slid_put slides s mid after k b put is dated born died at first len shows sized small =
    let front = take k mid in
    let back = drop k mid in
    let whole : front ++ back ≡ mid = take-append-drop k mid in
    let same = put_parts mid after k b put in
    let dates = subst (AllByRecursion (IsDated s.rev)) (sym whole) dated in
    let parts = each_part (IsDated s.rev) front back dates in
    let all = each-append (IsDated s.rev) front (b ∷ back) parts.0 (
      (omega (arith, born), λ d e. absurd (cc)),
      parts.1,
    ) in (
      slid_relabelled (slides ++ s ∷ []) (front ++ b ∷ back) after same
          (slid_shown slides s front back b (subst (IsSlid slides) (sym whole) is) dates born died at first len shows
          sized (subst (λ l. sum_by (λ x. x.len) l + b.len ≤ MAX_CHARACTERS) (sym whole) small)),
      dated_without s.rev after (subst (AllByRecursion (IsDated s.rev)) (sym same)
          (dated_with s.rev (front ++ b ∷ back) all)),
    )

-- one block more may be alive
pub one_more : (mid after : List Block) (k : ℕ) (b : Block) → without_labels after
    ≡ insert (without_labels mid) k (unlabelled b) → live_blocks after ≤ live_blocks mid + 1
one_more mid after k b put =
    let front = take k mid in
    let back = drop k mid in
    let same = put_parts mid after k b put in
    let count : live_blocks after ≡ live_blocks (front ++ b ∷ back) = sym (live_unlabelled after) ∙ ap live_blocks same
    ∙ live_unlabelled (front ++ b ∷ back) in
    let split_mid : live_blocks mid ≡ live_blocks front + live_blocks back =
    ap live_blocks (sym (take-append-drop k mid)) ∙ sum_by-append counts front back in
    let split_new = sum_by-append counts front (b ∷ back) in
    let here = count-cons b back in
    let one : counts b ≤ 1 = split (is_none b.died) (λ e. rw e (omega arith)) (λ e. rw e (omega arith)) in
    omega (arith, count, split_mid, split_new, here, one)
  where
    live_unlabelled : (bs : List Block) → live_blocks (without_labels bs) ≡ live_blocks bs
    live_unlabelled [] = refl
    live_unlabelled (x ∷ bs) = count-cons (unlabelled x) (without_labels bs) ∙ ap (λ n. counts x + n)
        (live_unlabelled bs) ∙ sym (count-cons x bs)

-- no more blocks than characters
pub blocks_small : (bs : List Block) → AllByRecursion IsSized bs → length bs ≤ sum_by (λ b. b.len) bs
blocks_small [] h = omega arith
blocks_small (b ∷ bs) h =
    let sum = sum_by-cons (λ (x : Block). x.len) b bs in
    let rest = blocks_small bs h.1 in
    let some = h.0.0 in
    omega (arith, sum, rest, some)

-- no blocks need no slides
pub slid_nothing : (slides : List Slide) (bs : List Block) → slides ≡ [] → bs ≡ [] → IsSlid slides bs
slid_nothing slides bs none blank = rw (none, blank) (record { sorted = tt; by = λ rev d. tt; leads = λ rev. refl })
